-- `samples::first_bad` meets its contract: it looks at each sample from `from` on in turn. Assumes nothing.
use Rattle.std.proofs.Common.{not, get_or, rules, tests}
use Rattle.std.specs.Float.{nan}
use Rattle.float.specs.Finite.{finite_of}
use Rattle.theory_tables.proofs.Searches.{found_from_find}
use Rattle.refusals.proofs.samples.first_bad.Goals as goal

pub returns : goal.returns
returns c = found_from_find (λ i. not (finite_of (get_or c.args.samples.now i nan))) _ _ _ c.find.result c.find.ensures.ran (λ x b q k. search (rules, tests))
