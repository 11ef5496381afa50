-- `chain::first_out_of_range` meets its contract: it looks at each used place in turn. Assumes nothing.
use Rattle.std.proofs.Common.{refl, ◌∙◌, not, take, get_or-take, arith, rules, tests}
use Rattle.std.proofs.lemmas.List.{length-take}
use Rattle.std.proofs.lemmas.Iterator.{YieldsList-from_slice}
use Rattle.std.proofs.lemmas.Iterator.Search.{position_from_yields_List}
use Rattle.theory_tables.specs.Condition.{decide}
use Rattle.theory_tables.proofs.Searches.{found_by_position}
use Rattle.stage.specs.declared.setup.Slot.{Slot}
use Rattle.stage.specs.Setup.{unused, used_of}
use Rattle.stage.specs.Range.{in_range_of}
use Rattle.refusals.specs.Refusals.{out_of_range}
use Rattle.refusals.proofs.chain.first_out_of_range.Goals as goal

pub returns : goal.returns
unfolding in_range_of
returns c =
    let setup = c.args.setup.now in
    let stages = take (used_of setup) setup.slots in
    let test = λ (slot : Slot). not (in_range_of slot.stage) in
    position_from_yields_List test _ _ c.position.result c.position.ensures.ran (YieldsList-from_slice stages (c.iter.ensures.rest ∙ c.stages.ensures)) (λ x b q k. search (rules, tests))
    ∙ found_by_position (λ i. decide (out_of_range setup i)) test stages unused (used_of setup) (omega (arith, length-take (used_of setup) setup.slots)) (λ i h. rw get_or-take refl) refl
