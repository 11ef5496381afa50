-- What `find` finds is the first place below the count whose words are no stage. Assumes nothing.
use Rattle.std.proofs.Common.{refl, rules, tests}
use Rattle.theory_tables.specs.Condition.{decide}
use Rattle.theory_tables.proofs.Searches.{found_by_find}
use Rattle.stage_words.specs.Words.{unknown_at}
use Rattle.stage_words.proofs.first_unknown.Goals as goal

pub returns : goal.returns
returns c = found_by_find (λ i. decide (unknown_at c.args.words.now i)) _ _ _ c.find.result c.find.ensures.ran (λ x b q k. search (rules, tests)) refl
