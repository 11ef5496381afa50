use Rattle.std.proofs.Common.{refl}
use lib.Ieee.{of_bits}
use Rattle.float.proofs.floating.F32Floating.NAN.Goals as goal

pub returns : goal.returns
unfolding of_bits
returns c = refl
