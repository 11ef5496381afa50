-- `state::first_lost` meets its contract: it looks at each number in turn. Assumes nothing.
use Rattle.std.proofs.Common.{refl, ap, ◌∙◌, ℕ, rules, tests}
use Rattle.theory_tables.specs.First.{found_of}
use Rattle.theory_tables.specs.Condition.{decide}
use Rattle.theory_tables.proofs.Searches.{found_by_find}
use Rattle.refusals.specs.Refusals.{lost_at}
use Rattle.refusals.proofs.state.first_lost.Goals as goal

pub returns : goal.returns
returns c =
    let test = λ (i : ℕ). decide (lost_at c.args.setup.now c.args.positions.now i) in
    found_by_find test _ _ _ c.find.result c.find.ensures.ran (λ x b q k. search (rules, tests)) refl
    ∙ ap (found_of test) c.used.ensures
