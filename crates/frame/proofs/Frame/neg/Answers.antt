use Rattle.std.proofs.Common.{refl}
use Rattle.frame.specs.Operations.{neg_of}
use Rattle.frame.proofs.Frame.neg.Goals as goal

pub returns : goal.returns
unfolding neg_of
returns c = refl
