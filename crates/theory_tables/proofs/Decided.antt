-- A condition is decided true exactly where it holds, and a row applies, with its place, exactly where that is decided. By induction over the condition. Assumes nothing.
use Rattle.std.proofs.Common.{◌≡◌, refl, ap, sym, ◌∙◌, ⊎_elim, inl, inr, true, false, not, ℕ, ltb-true, leb-true, eqb-true, lt-ltb, le-leb, eq-eqb, ne_eqb}
use mathlib.Core.Bool.{false≢true}
use borrow.Author.Tests.{eqb-false, not-true}
use Rattle.theory_tables.specs.First.{first_of}
use Rattle.theory_tables.specs.Condition.{Condition, less, at_most, same, differ, fails, either, both, among, Holds, decide}
use Rattle.theory_tables.specs.Rows.{When, given, first, AppliesAt, Never, applies, place_in}
use Rattle.theory_tables.proofs.Bools.{true_or_false, or_so, or_is, and_so, and_is, not_so}
use Rattle.theory_tables.proofs.Firsts.{first_is, first_clear, some_hit, some_none, some_less, some_so, none_clear}

-- ---- a condition
pub so : (c : Condition) → decide c ≡ true → Holds c
so (less a b) h = ltb-true a b h
so (at_most a b) h = leb-true a b h
so (same a b) h = eqb-true a b h
so (differ a b) h = eqb-false a b (not-true _ h)
so (fails t) h = not-true t h
so (either c d) h = ⊎_elim (λ q. inl (so c q)) (λ q. inr (so d q)) (or_so (decide c) (decide d) h)
so (both c d) h = let q = and_so (decide c) (decide d) h in (so c q.0, so d q.1)
so (among n c) h = let i = first_of (λ i. decide (c i)) n in (i, some_less _ n h, so (c i) (some_so _ n h))

pub is : (c : Condition) → Holds c → decide c ≡ true
is (less a b) h = lt-ltb a b h
is (at_most a b) h = le-leb a b h
is (same a b) h = eq-eqb a b h
is (differ a b) h = ap not (ne_eqb a b h)
is (fails t) h = ap not h
is (either c d) h = or_is (decide c) (decide d) (⊎_elim (λ q. inl (is c q)) (λ q. inr (is d q)) h)
is (both c d) h = and_is (decide c) (decide d) (is c h.0) (is d h.1)
is (among n c) h = some_hit (λ i. decide (c i)) n h.0 h.1 (is (c h.0) h.2)

pub so_not : (c : Condition) → decide c ≡ false → Holds c → ⊥
so_not c h q = false≢true (sym h ∙ is c q)

pub is_not : (c : Condition) → (Holds c → ⊥) → decide c ≡ false
is_not c h = not_so (decide c) (λ q. h (so c q))

-- two conditions that say the same are decided alike
pub alike : (c d : Condition) → (Holds c → Holds d) → (Holds d → Holds c) → decide c ≡ decide d
alike c d f g =
    ⊎_elim
    (λ h. h ∙ sym (is d (f (so c h))))
    (λ h. h ∙ sym (is_not d (λ k. so_not c h (g k))))
    (true_or_false (decide c))

-- ---- when a row applies
pub applies_so : (w : When) → applies w ≡ true → AppliesAt w (place_in w)
applies_so (given place c) h = (so c h, refl)
applies_so (first n c) h = (some_less _ n h, so (c (place_in (first n c))) (some_so _ n h), λ j g. so_not (c j) (first_clear _ n j g))

pub applies_is : (w : When) (p : ℕ) → AppliesAt w p → (applies w ≡ true) × (place_in w ≡ p)
applies_is (given place c) p h = (is c h.0, sym h.1)
applies_is (first n c) p h = let q = is (c p) h.1 in (some_hit _ n p h.0 q, first_is _ n p h.0 (λ j g. is_not (c j) (h.2 j g)) q)

pub never_so : (w : When) → applies w ≡ false → Never w
never_so (given place c) h = so_not c h
never_so (first n c) h = λ i g. so_not (c i) (none_clear _ n h i g)

pub never_is : (w : When) → Never w → applies w ≡ false
never_is (given place c) h = is_not c h
never_is (first n c) h = some_none _ n (λ i g. is_not (c i) (h i g))
