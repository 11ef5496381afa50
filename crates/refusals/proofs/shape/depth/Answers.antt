-- `shape::depth` meets its contract: it counts the owners among the places before. Assumes nothing.
use Rattle.std.proofs.Common.{◌≡◌, ap, ◌∙◌, cond, ℕ, zero, suc, ◌+◌, arith, add-one, rules, tests}
use Rattle.std.specs.List.{count_by, range_with_len}
use Rattle.std.proofs.lemmas.Iterator.{YieldsList-from_range}
use Rattle.std.proofs.lemmas.Iterator.Consumers.{YieldsList-from_filter, count_from_yields_List}
use Rattle.std.proofs.lemmas.List.Sums.{sum_by-cons, length-filter}
use Rattle.theory_tables.specs.Condition.{decide}
use Rattle.stage.specs.declared.setup.Setup.{Setup}
use Rattle.refusals.specs.Shape.{owns, depth_of}
use Rattle.refusals.proofs.shape.depth.Goals as goal

-- m more stages, from place k on
depth_more : (setup : Setup) (i m k : ℕ) → depth_of setup i k + count_by (λ j. decide (owns setup j i)) (range_with_len k m) ≡ depth_of setup i (k + m)
unfolding depth_of
depth_more setup i zero k = let e : k + 0 ≡ k = omega arith in omega (arith, ap (depth_of setup i) e)
depth_more setup i (suc m) k =
    let next : depth_of setup i (k + 1) ≡ depth_of setup i k + cond (decide (owns setup k i)) 1 0 = ap (depth_of setup i) (add-one k) in
    let test = λ (j : ℕ). decide (owns setup j i) in
    let front : count_by test (range_with_len k (suc m)) ≡ cond (test k) 1 0 + count_by test (range_with_len (k + 1) m) = sum_by-cons (λ j. cond (test j) 1 0) k (range_with_len (k + 1) m) in
    let e : k + 1 + m ≡ k + suc m = omega arith in
    omega (arith, depth_more setup i m (k + 1), next, front, ap (depth_of setup i) e)

pub returns : goal.returns
unfolding depth_of
returns c =
    let test = λ (j : ℕ). decide (owns c.args.setup.now j c.args.i) in
    let e : 0 + c.args.i ≡ c.args.i = omega arith in
    let all = range_with_len 0 c.args.i in
    let counted : c.count.result ≡ count_by test all =
    count_from_yields_List c.filter.result _ c.count.ensures.ran (YieldsList-from_filter _ test (YieldsList-from_range 0 c.args.i c.args.i c.filter.ensures.source (omega arith)) c.filter.ensures.closure (λ x b q k. search (rules, tests)))
    ∙ length-filter test all in
    omega (arith, counted, depth_more c.args.setup.now c.args.i c.args.i 0, ap (depth_of c.args.setup.now c.args.i) e)
