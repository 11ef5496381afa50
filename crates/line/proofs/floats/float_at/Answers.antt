use Rattle.std.proofs.Common.{arith}
use Rattle.std.specs.Float.{nan}
use lib.Ieee.{div, of_bits}
use Rattle.line.proofs.floats.float_at.Goals as goal

pub returns : goal.returns
unfolding div of_bits
returns c = rw (c.unwrap_or.ensures, c.copied.ensures) (c.get.ensures.lookup.4 (omega arith) nan)
