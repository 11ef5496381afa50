use Rattle.std.proofs.Common.{refl}
use Rattle.frame.specs.Operations.{div_of}
use Rattle.frame.proofs.Frame.div.Goals as goal

pub returns : goal.returns
unfolding div_of
returns c = refl
