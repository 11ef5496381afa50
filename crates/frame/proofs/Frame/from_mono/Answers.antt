use Rattle.std.proofs.Common.{refl}
use Rattle.frame.specs.Operations.{from_mono_of}
use Rattle.frame.proofs.Frame.from_mono.Goals as goal

pub returns : goal.returns
unfolding from_mono_of
returns c = refl
