-- Laws of tests: one of numbers that have other names, and what a test of "and" or "or" says. Assumes nothing.
use Rattle.std.proofs.Common.{◌≡◌, refl, ◌⊎◌, inl, inr, Bool, true, false, ◌&&◌, ◌||◌, true≢false, ℕ, ◌≤◌, ◌<◌, arith, ltb, lt-ltb, le-ltb}
use mathlib.Core.Bool.{false≢true}

-- a test of numbers that are the definition's, by other names
module _ {r x n m : ℕ} (e : r ≡ x) (q : n ≡ m) where
  pub less_so : r < n → ltb x m ≡ true
  less_so h = lt-ltb x m (omega arith)

  pub less_not : n ≤ r → ltb x m ≡ false
  less_not h = le-ltb x m (omega arith)

-- ---- "and", "or", "not"
pub true_or_false : (b : Bool) → (b ≡ true) ⊎ (b ≡ false)
true_or_false true = inl refl
true_or_false false = inr refl

pub or_so : (a b : Bool) → (a || b) ≡ true → (a ≡ true) ⊎ (b ≡ true)
or_so true b h = inl refl
or_so false b h = inr h

pub or_is : (a b : Bool) → (a ≡ true) ⊎ (b ≡ true) → (a || b) ≡ true
or_is true b h = refl
or_is false b (inl h) = absurd (false≢true h)
or_is false b (inr h) = h

pub and_so : (a b : Bool) → (a && b) ≡ true → (a ≡ true) × (b ≡ true)
and_so true b h = (refl, h)
and_so false b h = absurd (false≢true h)

pub and_is : (a b : Bool) → a ≡ true → b ≡ true → (a && b) ≡ true
and_is a b h k = rw (h, k)

pub not_so : (b : Bool) → (b ≡ true → ⊥) → b ≡ false
not_so true h = absurd (h refl)
not_so false h = refl

pub or_none : (a b : Bool) → (a || b) ≡ false → (a ≡ false) × (b ≡ false)
or_none true b h = absurd (true≢false h)
or_none false b h = (refl, h)
