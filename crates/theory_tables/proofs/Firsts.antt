-- Laws of the first number at which something is so, and of a loop that looks for it, number after number. Assumes nothing.
use Rattle.std.proofs.Common.{◌≡◌, refl, sym, ◌∙◌, Bool, true, false, cond, Some, None, ℕ, zero, suc, ◌+◌, ◌≤◌, ◌<◌, arith, below_more, ltb-true, ltb-false, lt-ltb, le-ltb}
use mathlib.Core.Bool.{false≢true}
use Rattle.std.proofs.lemmas.Option.{none-some, cond_some}
use native.Mathlib.Decide.{ℕ_discrete, dec_lt}
use Rattle.theory_tables.specs.First.{first_from, first_of, some, found_of}

module _ (t : ℕ → Bool) where
  -- ---- from any number on
  from_le : (m k : ℕ) → first_from t m k ≤ k + m
  unfolding first_from
  from_le zero k = omega arith
  from_le (suc m) k = go (t k) (from_le m (suc k))
    where
      go : (b : Bool) → first_from t m (suc k) ≤ suc k + m → cond b k (first_from t m (suc k)) ≤ k + suc m
      go true h = omega arith
      go false h = omega arith

  from_clear : (m k₀ k : ℕ) → k₀ ≤ k → k < first_from t m k₀ → t k ≡ false
  unfolding first_from
  from_clear zero k₀ k h g = absurd (omega arith)
  from_clear (suc m) k₀ k h g = go (t k₀) refl g (from_clear m (suc k₀) k)
    where
      go : (b : Bool) → t k₀ ≡ b → k < cond b k₀ (first_from t m (suc k₀)) → (suc k₀ ≤ k → k < first_from t m (suc k₀) → t k ≡ false) → t k ≡ false
      go true q g r = absurd (omega arith)
      go false q g r = at (ℕ_discrete k₀ k)
        where
          at : Dec (k₀ ≡ k) → t k ≡ false
          at (yes e) = rw (← e) q
          at (no d) = r (omega arith) g

  from_so : (m k : ℕ) → first_from t m k < k + m → t (first_from t m k) ≡ true
  unfolding first_from
  from_so zero k h = absurd (omega arith)
  from_so (suc m) k h = go (t k) refl h (from_so m (suc k))
    where
      go : (b : Bool) → t k ≡ b → cond b k (first_from t m (suc k)) < k + suc m → (first_from t m (suc k) < suc k + m → t (first_from t m (suc k)) ≡ true) → t (cond b k (first_from t m (suc k))) ≡ true
      go true q g r = q
      go false q g r = r (omega arith)

  -- ---- what the first gives
  pub first_le : (n : ℕ) → first_of t n ≤ n
  first_le n = omega (arith, from_le n 0)

  pub first_so : (n : ℕ) → first_of t n < n → t (first_of t n) ≡ true
  first_so n h = from_so n 0 (omega arith)

  pub first_clear : (n j : ℕ) → j < first_of t n → t j ≡ false
  first_clear n j h = from_clear n 0 j (omega arith) h

  -- ---- and what gives the first: it is so at no number before
  never : (j : ℕ) → t j ≡ false → t j ≡ true → ⊥
  never j h q = false≢true (sym h ∙ q)

  pub first_is : (n k : ℕ) → k < n → ((j : ℕ) → j < k → t j ≡ false) → t k ≡ true → first_of t n ≡ k
  first_is n k h f q = go (dec_lt (first_of t n) k) (dec_lt k (first_of t n))
    where
      go : Dec (first_of t n < k) → Dec (k < first_of t n) → first_of t n ≡ k
      go (yes g) d = absurd (never (first_of t n) (f (first_of t n) g) (first_so n (omega arith)))
      go (no g) (yes d) = absurd (never k (first_clear n k d) q)
      go (no g) (no d) = omega arith

  pub first_none : (n : ℕ) → ((j : ℕ) → j < n → t j ≡ false) → first_of t n ≡ n
  first_none n f = go (dec_lt (first_of t n) n)
    where
      go : Dec (first_of t n < n) → first_of t n ≡ n
      go (yes g) = absurd (never (first_of t n) (f (first_of t n) g) (first_so n g))
      go (no g) = omega (arith, first_le n)

  -- ---- the same of `some`
  pub some_hit : (n k : ℕ) → k < n → t k ≡ true → some t n ≡ true
  some_hit n k h q = go (dec_lt k (first_of t n))
    where
      go : Dec (k < first_of t n) → some t n ≡ true
      go (yes g) = absurd (never k (first_clear n k g) q)
      go (no g) = lt-ltb (first_of t n) n (omega arith)

  pub some_none : (n : ℕ) → ((j : ℕ) → j < n → t j ≡ false) → some t n ≡ false
  some_none n f = le-ltb (first_of t n) n (omega (arith, first_none n f))

  module _ (n : ℕ) where
    pub some_less : some t n ≡ true → first_of t n < n
    some_less h = ltb-true (first_of t n) n h

    pub some_so : some t n ≡ true → t (first_of t n) ≡ true
    some_so h = first_so n (some_less h)

    pub none_clear : some t n ≡ false → (j : ℕ) → j < n → t j ≡ false
    none_clear h j g = first_clear n j (omega (arith, ltb-false (first_of t n) n h))

  -- ---- a loop over k below n has looked at the numbers below k, and it is so at none of them
  pub record Looked (n k : ℕ) : Type 0 where
    pub within : k ≤ n
    pub clear : (j : ℕ) → j < k → t j ≡ false

pub look_start : {t : ℕ → Bool} {n : ℕ} → Looked t n 0
look_start = record { within = omega arith; clear = λ j h. absurd (omega arith) }

module _ {t : ℕ → Bool} {n k : ℕ} (l : Looked t n k) where
  pub look_on : k < n → t k ≡ false → Looked t n (k + 1)
  look_on h q = record { within = omega arith; clear = below_more (λ j. t j ≡ false) k l.clear q }

  pub look_found : k < n → t k ≡ true → k ≡ first_of t n
  look_found h q = sym (first_is t n k h l.clear q)

  pub look_over : n ≤ k → k ≡ first_of t n
  look_over h = let e : k ≡ n = omega (arith, l.within) in e ∙ sym (first_none t n (λ j g. l.clear j (omega arith)))

-- ---- what a search answers: the first number, if there is one
module _ (t : ℕ → Bool) (n : ℕ) where
  pub found_some : {k : ℕ} → Some k ≡ found_of t n → (some t n ≡ true) × (first_of t n ≡ k)
  found_some {k} e = cond_some (some t n) (first_of t n) k (sym e)

  pub found_none : None ≡ found_of t n → some t n ≡ false
  found_none e = go (some t n) e
    where
      go : (b : Bool) → None ≡ cond b (Some (first_of t n)) None → b ≡ false
      go true h = absurd (none-some (first_of t n) h)
      go false h = refl

-- of a loop over k
module _ {t : ℕ → Bool} {n k : ℕ} (l : Looked t n k) where
  pub look_some : k < n → t k ≡ true → Some k ≡ found_of t n
  look_some h q = let e = look_found l h q in rw (some_hit t n k h q, ← e) refl

  pub look_none : n ≤ k → None ≡ found_of t n
  look_none h = rw (le-ltb (first_of t n) n (omega (arith, look_over l h))) refl
