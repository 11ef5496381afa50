use Rattle.std.proofs.Common.{refl}
use Rattle.frame.specs.Operations.{new_of}
use Rattle.frame.proofs.Frame.new.Goals as goal

pub returns : goal.returns
unfolding new_of
returns c = refl
