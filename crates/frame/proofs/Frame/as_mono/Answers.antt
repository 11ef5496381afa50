use lib.Ieee.{of_bits, round}
use Rattle.float.specs.Literal.{literal}
use Rattle.frame.specs.Operations.{as_mono_of}
use Rattle.frame.proofs.Frame.as_mono.Goals as goal

pub returns : goal.returns
unfolding as_mono_of literal round of_bits
returns c = c.from_mono.ensures
