-- `state::first_ahead` meets its contract: it looks at each number in turn. Assumes nothing.
use Rattle.std.proofs.Common.{refl, rules, tests}
use Rattle.theory_tables.specs.Condition.{decide}
use Rattle.theory_tables.proofs.Searches.{found_by_find}
use Rattle.refusals.specs.Refusals.{ahead_at}
use Rattle.refusals.proofs.state.first_ahead.Goals as goal

pub returns : goal.returns
returns c = found_by_find (λ k. decide (ahead_at c.args.frames c.args.progress.now k)) _ _ _ c.find.result c.find.ensures.ran (λ x b q k. search (rules, tests)) refl
