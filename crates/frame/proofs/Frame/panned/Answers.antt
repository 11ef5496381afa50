use Rattle.std.proofs.Common.{sym}
use lib.Ieee.{of_bits, round}
use Rattle.float.specs.Literal.{literal}
use Rattle.frame.specs.Panning.{sqrt2, rightward}
use Rattle.frame.proofs.Panning.{centred, aside}
use Rattle.frame.proofs.Frame.panned.Goals as goal

pub returns-then-panning : goal.returns-then-panning
unfolding literal round of_bits
returns-then-panning c = sym (centred _ _ c.if-panning.true)

pub returns : goal.returns
unfolding sqrt2 rightward literal round of_bits
returns c =
    rw (c.mul.ensures, c.sqrt-2.ensures, c.sqrt.ensures, c.clamp_signed_unit.ensures)
    (sym (aside _ _ c.if-panning.false))
