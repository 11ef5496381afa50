-- `Stage::in_range` meets its contract: in each arm the stage is known, and what the callees ensure is put together. A whole number of the stage fits 32 bits, so reading it back changes nothing. Assumes nothing.
use Rattle.std.proofs.Common.{w32, SFits, rules}
use mir.ValLaws.{to_z-of_z}
use lib.Ieee.{of_bits, round}
use Rattle.float.specs.Literal.{literal}
use Rattle.stage.specs.Range.{in_range_of}
use Rattle.stage.proofs.Contained.{int_le, float_le}
use Rattle.stage.proofs.kind.Stage.in_range.Goals as goal

pub returns-in-EqFilter : goal.returns-in-EqFilter
unfolding in_range_of literal round of_bits
returns-in-EqFilter c =
    let fits : SFits w32 c.in-EqFilter.gain = search rules in
    let gains = c.new-in-EqFilter.ensures in
    let qs = c.new-in-EqFilter-2.ensures in
    rw (c.is_tangent-in-EqFilter.ensures, c.in-EqFilter.is, c.contains-in-EqFilter.ensures.value, gains.start, gains.end, gains.exhausted, to_z-of_z w32 c.in-EqFilter.gain fits, c.contains-in-EqFilter-2.ensures.value, qs.start, qs.end, qs.exhausted) (simp (int_le, float_le))
