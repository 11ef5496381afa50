use lib.Ieee.{of_bits, round, neg}
use Rattle.float.specs.Literal.{literal}
use Rattle.float.specs.Clamp.{signed_unit_of}
use Rattle.float.proofs.clamp.clamp_signed_unit.Goals as goal

pub returns : goal.returns
unfolding signed_unit_of literal round of_bits neg
returns c = c.clamp.ensures
