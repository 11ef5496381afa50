use Rattle.std.proofs.Common.{refl}
use lib.Ieee.{of_bits, round}
use Rattle.float.specs.Literal.{literal}
use Rattle.float.proofs.floating.F32Floating.ONE.Goals as goal

pub returns : goal.returns
unfolding literal round of_bits
returns c = refl
