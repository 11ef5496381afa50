-- `shape::outgrows_an_owner` meets its contract: it looks at each number in turn. Assumes nothing.
use Rattle.std.proofs.Common.{refl, ◌∙◌, ℕ, arith, rules, tests}
use Rattle.std.proofs.lemmas.Iterator.{YieldsList-from_range}
use Rattle.std.proofs.lemmas.Iterator.Search.{any_from_yields_List}
use Rattle.theory_tables.specs.Condition.{decide}
use Rattle.theory_tables.proofs.Searches.{some_by_any}
use Rattle.refusals.specs.Shape.{outgrows}
use Rattle.refusals.proofs.shape.outgrows_an_owner.Goals as goal

pub returns : goal.returns
returns c =
    let test = λ (j : ℕ). decide (outgrows c.args.setup.now c.args.i j) in
    any_from_yields_List test _ _ c.any.result c.any.ensures.ran (YieldsList-from_range 0 c.args.i c.args.i refl (omega arith)) (λ x b q k. search (rules, tests))
    ∙ some_by_any test c.args.i
