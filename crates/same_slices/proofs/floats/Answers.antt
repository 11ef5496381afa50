-- The pairs that `all` goes through are those of the two lists. Assumes nothing.
use Rattle.std.proofs.Common.{rules, tests, ◌∙◌, ne_eqb}
use Rattle.std.specs.Float.{binary32}
use Rattle.std.proofs.lemmas.Iterator.{YieldsList-from_slice, YieldsList-from_zip, cases_from_all}
use lib.Ieee.{to_bits}
use Rattle.same_slices.proofs.Sames.{Same, Other, other_length, decided}
use Rattle.same_slices.proofs.floats.Goals as goal

pub returns-else-a-b : goal.returns-else-a-b
returns-else-a-b c = ne_eqb _ _ c.if-a-b.false ∙ other_length (to_bits binary32) _ _ c.if-a-b.false

pub returns-then-a-b : goal.returns-then-a-b
returns-then-a-b c = decided (to_bits binary32) _ _ _ c.if-a-b.true (cases_from_all c.all.new.self _ _ (Same (to_bits binary32)) (Other (to_bits binary32)) c.all.ensures.ran (YieldsList-from_zip (YieldsList-from_slice c.args.a.now cc) (YieldsList-from_slice c.args.b.now cc)) (λ x q k. search (rules, tests)) (λ x q k. search (rules, tests)))
