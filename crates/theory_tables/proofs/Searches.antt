-- The first number at which something is so, as std's `find`, `any` and `position` look for it: where the closure is the test. Assumes nothing.
use Rattle.std.proofs.Common.{◌≡◌, refl, ap, sym, ◌∙◌, Bool, true, false, cond, ◌&&◌, ◌||◌, List, ℕ, zero, suc, ◌+◌, ◌≤◌, ◌<◌, arith, add-one, ltb, leb, length, get_or, lt-ltb, le-ltb, le-leb, Bor, Option, Some, None}
use native.Mathlib.Decide.{dec_lt}
use borrow.Author.Tests.{lt-leb}
use denote.Param.Members.{Mut}
use Rattle.std.specs.Bool.{⊤}
use Rattle.std.specs.Fn.{CalledAt}
use Rattle.std.specs.Iterator.{YieldsThen}
use Rattle.std.specs.List.{FoldsTo, list_any, position, position_or_len, range_with_len}
use Rattle.std.specs.Option.{MatchOption}
use Rattle.std.specs.declared.ops.Range.{Range}
use Rattle.std.proofs.iter.Yields.{nat_range_steps}
use Rattle.std.proofs.lemmas.Iterator.{first_from_Range}
use Rattle.std.proofs.lemmas.List.{get_or_past}
use Rattle.std.proofs.lemmas.List.Sums.{passes_at_first, fails_before_first}
use Rattle.theory_tables.specs.First.{first_from, first_of, some, found_of}
use Rattle.theory_tables.proofs.Firsts.{first_is, some_hit, some_none}

-- ---- `find` over the numbers from s.start up to s.end: its answer r, what it ran, and what the closure answers
module _ {F : Type 0} {g : Mut F (Bor ℕ × Unit {0}) Bool} (t : ℕ → Bool) (s u : Range ℕ) (f : F) (r : Option ℕ)
    (ran : (xs : List ℕ) × (j : F) × YieldsThen nat_range_steps s xs r u × FoldsTo (λ p x q. CalledAt g p x false q) f xs j × MatchOption r ⊤ (λ x. (h : F) × CalledAt g j x true h))
    (closure : (x : ℕ) (b : Bool) (q : F) → CalledAt g f x b q → (q ≡ f) × (b ≡ t x)) where
  -- a test that is t from s.start on, and is passed nowhere before
  module _ (test : ℕ → Bool) (from : (j : ℕ) → s.start ≤ j → test j ≡ t j) (before : (j : ℕ) → j < s.start → test j ≡ false) where
    nowhere : (k : ℕ) → ((j : ℕ) → s.start ≤ j → j < k → t j ≡ false) → (j : ℕ) → j < k → test j ≡ false
    nowhere k h j g = go (dec_lt j s.start)
      where
        go : Dec (j < s.start) → test j ≡ false
        go (yes q) = before j q
        go (no q) = from j (omega arith) ∙ h j (omega arith) g

    found : (r : Option ℕ)
        → MatchOption r ((j : ℕ) → s.start ≤ j → j < s.end → t j ≡ false) (λ k. (s.start ≤ k) × (k < s.end) × (t k ≡ true) × ((j : ℕ) → s.start ≤ j → j < k → t j ≡ false))
        → r ≡ found_of test s.end
    found None h = rw (some_none test s.end (nowhere s.end h)) refl
    found (Some k) (z, h, q, e) = let p = from k z ∙ q in rw (some_hit test s.end k h p, first_is test s.end k h (nowhere k e) p) refl

    found_on : r ≡ found_of test s.end
    found_on = found r (first_from_Range s u f r (λ k. t k ≡ true) (λ k. t k ≡ false) ran (λ x q k. sym (closure x true q k).1) (λ x q k. let c = closure x false q k in (c.0, sym c.1)))

  -- from 0 on
  pub found_by_find : s.start ≡ 0 → r ≡ found_of t s.end
  found_by_find e = found_on t (λ j h. refl) (λ j h. absurd (omega (arith, e, h)))

  -- from any number on
  pub found_from_find : r ≡ found_of (λ i. leb s.start i && t i) s.end
  found_from_find =
      found_on (λ i. leb s.start i && t i)
      (λ j h. rw (le-leb s.start j h) refl)
      (λ j h. rw (lt-leb s.start j h) refl)

module _ (t : ℕ → Bool) where
  -- ---- `any` over the numbers below n
  any_range : (m k : ℕ) → list_any t (range_with_len k m) ≡ ltb (first_from t m k) (k + m)
  unfolding first_from
  any_range zero k = sym (le-ltb k (k + 0) (omega arith))
  any_range (suc m) k = go (t k) (any_range m (k + 1))
    where
      go : (b : Bool) → list_any t (range_with_len (k + 1) m) ≡ ltb (first_from t m (k + 1)) (k + 1 + m) → (b || list_any t (range_with_len (k + 1) m)) ≡ ltb (cond b k (first_from t m (suc k))) (k + suc m)
      go true e = sym (lt-ltb k (k + suc m) (omega arith))
      go false e = let q : k + 1 + m ≡ k + suc m = omega arith in e ∙ ap (λ n. ltb (first_from t m (k + 1)) n) q ∙ ap (λ n. ltb (first_from t m n) (k + suc m)) (add-one k)

  pub some_by_any : (n : ℕ) → list_any t (range_with_len 0 n) ≡ some t n
  some_by_any n = let q : 0 + n ≡ n = omega arith in any_range n 0 ∙ ap (λ k. ltb (first_of t n) k) q

  -- ---- `position` in a list: at each place the test of the element is the test of the place, and past the list's end neither is passed
  module _ {X : Type 0} (p : X → Bool) (xs : List X) (d : X) (n : ℕ) (short : length xs ≤ n) (agree : (i : ℕ) → i < n → p (get_or xs i d) ≡ t i) (past : p d ≡ false) where
    missed : ((i : ℕ) → i < length xs → p (get_or xs i d) ≡ false) → (i : ℕ) → i < n → t i ≡ false
    missed f i h = sym (agree i h) ∙ go (dec_lt i (length xs))
      where
        go : Dec (i < length xs) → p (get_or xs i d) ≡ false
        go (yes g) = f i g
        go (no g) = ap p (get_or_past xs i d (omega arith)) ∙ past

    pub found_by_position : position p xs ≡ found_of t n
    found_by_position = go (dec_lt (position_or_len p xs) (length xs))
      where
        k : ℕ
        k = position_or_len p xs

        go : Dec (k < length xs) → position p xs ≡ found_of t n
        go (yes h) =
            let hit : t k ≡ true = sym (agree k (omega arith)) ∙ passes_at_first p xs d h in
            rw (
              lt-ltb k (length xs) h,
              some_hit t n k (omega arith) hit,
              first_is t n k (omega arith) (λ j g. sym (agree j (omega arith)) ∙ fails_before_first p xs j d g) hit,
            ) refl
        go (no h) = rw (le-ltb k (length xs) (omega arith), some_none t n (missed (λ i g. fails_before_first p xs i d (omega arith)))) refl
