use Rattle.std.proofs.Common.{refl}
use lib.Ieee.{of_bits, round}
use Rattle.float.specs.Literal.{literal}
use Rattle.frame.specs.Operations.{zero_frame}
use Rattle.frame.proofs.Frame.zero.Goals as goal

pub returns : goal.returns
unfolding zero_frame literal round of_bits
returns c = refl
