-- `range::is_unit` meets its contract: the source's literals are the definition's. Assumes nothing.
use lib.Ieee.{of_bits, round}
use Rattle.float.specs.Literal.{literal}
use Rattle.stage.specs.Range.{unit_range}
use Rattle.stage.proofs.Contained.{float_le}
use Rattle.stage.proofs.range.is_unit.Goals as goal

pub returns : goal.returns
unfolding unit_range literal round of_bits
returns c =
    let range = c.new.ensures in
    rw (c.contains.ensures.value, range.start, range.end, range.exhausted) (simp float_le)
