-- What `all` says of the pairs of two lists of one length decides whether the lists are the same, over the element type and the code that elements are compared by. Assumes nothing.
use Rattle.std.proofs.Common.{◌≡◌, refl, ap, Bool, true, false, ◌&&◌, List, [], ◌∷◌, ℕ, zero, suc, ◌<◌, arith, eqb, length, get_or, eq-eqb, ne_eqb}
use Rattle.std.specs.Bool.{MatchBool}
use Rattle.std.specs.List.{zip, AllWithin, HoldsAt}
use Rattle.same_slices.specs.Same.{same_by}

-- where the rest differs, all do
rest_differs : (q : Bool) {r : Bool} → false ≡ r → false ≡ (q && r)
rest_differs true e = e
rest_differs false e = refl

module _ {A : Type 0} (code : A → ℕ) where
  -- a pair of elements with the same code, and one with two codes
  abbrev pub Same : A × A → Type 0
  Same p = code p.0 ≡ code p.1

  abbrev pub Other : A × A → Type 0
  Other p = Same p → ⊥

  pub other_length : (a b : List A) → (length a ≡ length b → ⊥) → false ≡ same_by code a b
  unfolding same_by
  other_length [] [] n = absurd (n refl)
  other_length [] (y ∷ b) n = refl
  other_length (x ∷ a) [] n = refl
  other_length (x ∷ a) (y ∷ b) n = rest_differs (eqb (code x) (code y)) (other_length a b (λ e. n (ap suc e)))

  module _ (d : A) where
    pub differs : (a b : List A) (i : ℕ) → i < length a → length a ≡ length b → (code (get_or a i d) ≡ code (get_or b i d) → ⊥) → false ≡ same_by code a b
    unfolding same_by
    differs [] b i h e n = absurd (omega arith)
    differs (x ∷ a) [] i h e n = refl
    differs (x ∷ a) (y ∷ b) zero h e n = simp (ne_eqb (code x) (code y) n)
    differs (x ∷ a) (y ∷ b) (suc i) h e n = rest_differs (eqb (code x) (code y)) (differs a b i (omega arith) (omega arith) n)

    pub agrees : (a b : List A) → length a ≡ length b → ((k : ℕ) → k < length a → code (get_or a k d) ≡ code (get_or b k d)) → true ≡ same_by code a b
    unfolding same_by
    agrees [] [] e f = refl
    agrees [] (y ∷ b) e f = absurd (omega arith)
    agrees (x ∷ a) [] e f = absurd (omega arith)
    agrees (x ∷ a) (y ∷ b) e f = simp (eq-eqb (code x) (code y) (f 0 (omega arith))) (agrees a b (omega arith) (λ k h. f (suc k) (omega arith)))

  -- the same of the pairs, as `all` says it
  pair_differs : (a b : List A) (k : ℕ) → k < length (zip a b) → HoldsAt Other (zip a b) k → false ≡ same_by code a b
  unfolding same_by
  pair_differs [] b k h n = absurd (omega arith)
  pair_differs (x ∷ a) [] k h n = refl
  pair_differs (x ∷ a) (y ∷ b) zero h n = simp (ne_eqb (code x) (code y) (n (x, y)))
  pair_differs (x ∷ a) (y ∷ b) (suc k) h n = rest_differs (eqb (code x) (code y)) (pair_differs a b k (omega arith) n)

  pairs_agree : (a b : List A) → length a ≡ length b → AllWithin Same (zip a b) 0 (length (zip a b)) → true ≡ same_by code a b
  unfolding same_by
  pairs_agree [] [] e f = refl
  pairs_agree [] (y ∷ b) e f = absurd (omega arith)
  pairs_agree (x ∷ a) [] e f = absurd (omega arith)
  pairs_agree (x ∷ a) (y ∷ b) e f = simp (eq-eqb (code x) (code y) (f 0 (x, y) (omega arith) (omega arith))) (pairs_agree a b (omega arith) (λ k d l h. f (suc k) d (omega arith) (omega arith)))

  pub decided : (a b : List A) (r : Bool) → length a ≡ length b → MatchBool r (AllWithin Same (zip a b) 0 (length (zip a b))) ((k : ℕ) × (k < length (zip a b)) × HoldsAt Other (zip a b) k) → r ≡ same_by code a b
  decided a b true e f = pairs_agree a b e f
  decided a b false e f = pair_differs a b f.0 f.1 f.2
