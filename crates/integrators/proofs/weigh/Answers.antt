use Rattle.std.proofs.Common.{refl}
use lib.Ieee.{of_bits, round}
use Rattle.float.specs.Literal.{literal}
use Rattle.integrators.specs.Integrators.{weights_of}
use Rattle.integrators.proofs.weigh.Goals as goal

pub returns : goal.returns
unfolding weights_of literal round of_bits
returns c = refl
