use Rattle.std.proofs.Common.{refl}
use Rattle.frame.specs.Operations.{sub_of}
use Rattle.frame.proofs.Frame.sub.Goals as goal

pub returns : goal.returns
unfolding sub_of
returns c = refl
