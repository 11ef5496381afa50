use lib.Ieee.{of_bits, round}
use Rattle.float.specs.Literal.{literal}
use Rattle.frame.specs.Mix.{mix_of}
use Rattle.frame.proofs.Frame.mixed.Goals as goal

pub returns : goal.returns
unfolding mix_of literal round of_bits
returns c =
    rw
    (c.add.ensures, c.mul.ensures, c.sqrt-2.ensures, c.mul-wet.ensures, c.sqrt.ensures, c.clamp_unit-clamped.ensures)
