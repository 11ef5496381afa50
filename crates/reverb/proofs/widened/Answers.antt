use Rattle.std.proofs.Common.{refl}
use lib.Ieee.{of_bits, round}
use Rattle.float.specs.Literal.{literal}
use Rattle.reverb.specs.Reverb.{width_of}
use Rattle.reverb.proofs.widened.Goals as goal

pub returns : goal.returns
unfolding width_of literal round of_bits
returns c = refl
