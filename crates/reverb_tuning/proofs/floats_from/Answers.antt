-- `floats_from` meets its contract: the numbers that the chain adds up are those of the lines from line k on. Assumes nothing.
use Rattle.std.proofs.Common.{◌≡◌, ℕ, ◌-◌, drop, get_or, rules, arith}
use Rattle.std.proofs.iter.Yields.{nat_range_steps}
use Rattle.std.proofs.lemmas.Iterator.{YieldsList, YieldsList-from_range, YieldsList-from_map, maps}
use Rattle.std.proofs.lemmas.Iterator.Consumers.{YieldsList-at, sum_from_yields_List, fits_from_yields_list}
use Rattle.std.proofs.lemmas.List.Sums.{sum_by-take-drop}
use Rattle.std.specs.Fn.{Called}
use Rattle.std.specs.Iterator.Adapters.{map_source, map_callee}
use Rattle.std.specs.declared.iter.Map.{Map}
use Rattle.std.specs.declared.ops.Range.{Range}
use denote.Param.Members.{Mut}
use Rattle.reverb_tuning.specs.Tuning.{line_count, reverb_lines}
use Rattle.reverb_tuning.proofs.Tunings.{lines_length, rest_read, floats_are, reverb_within}
use Rattle.reverb_tuning.proofs.floats_from.Goals as goal

-- what the chain yields
yields : (rate k : ℕ) {F : Type 0} {s : Map (Range ℕ) F} (g : Mut F (ℕ × Unit {0}) ℕ) {f : F} → map_source s ≡ record { start = k; end = line_count } → map_callee s ≡ f
    → ((x r : ℕ) (q : F) → Called g f (x, tt) r q → (q ≡ f) × (r ≡ get_or (reverb_lines rate) x 0)) → YieldsList (maps nat_range_steps g) (λ r. r) s (drop k (reverb_lines rate))
yields rate k g at f gives =
    rw (← rest_read (reverb_lines rate) k (line_count - k) (omega (arith, lines_length rate)))
    (YieldsList-from_map g (λ (x : ℕ). get_or (reverb_lines rate) x 0) (YieldsList-at at (YieldsList-from_range k line_count (line_count - k) (cc) (omega arith))) f gives)

pub sum-requires-clause-fits : goal.sum-requires-clause-fits
sum-requires-clause-fits c =
    let a = c.args in
    fits_from_yields_list c.map.result _ (yields a.rate a.k _ c.map.ensures.source c.map.ensures.closure (λ x r q k. search rules)) (omega (arith, sum_by-take-drop (λ n. n) (reverb_lines a.rate) a.k, floats_are a.rate, reverb_within a.rate))

pub returns : goal.returns
returns c =
    let a = c.args in
    sum_from_yields_List c.map.result _ c.sum.ensures.ran (yields a.rate a.k _ c.map.ensures.source c.map.ensures.closure (λ x r q k. search rules))
