use Rattle.std.proofs.Common.{refl}
use Rattle.frame.specs.Operations.{mul_of}
use Rattle.frame.proofs.Frame.mul.Goals as goal

pub returns : goal.returns
unfolding mul_of
returns c = refl
