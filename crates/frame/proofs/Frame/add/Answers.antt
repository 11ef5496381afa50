use Rattle.std.proofs.Common.{refl}
use Rattle.frame.specs.Operations.{add_of}
use Rattle.frame.proofs.Frame.add.Goals as goal

pub returns : goal.returns
unfolding add_of
returns c = refl
