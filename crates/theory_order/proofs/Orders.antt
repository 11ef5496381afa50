-- Laws of counting, running and accepting an order, over any kind of state: each by going through the entries.
use Rattle.std.proofs.Common.{◌≡◌, refl, ◌≢◌, List, [], ◌∷◌, ◌++◌, ℕ}
use native.Mathlib.Decide.{ℕ_discrete}
use Rattle.theory_order.specs.Order.{one_if, hit, run, Allowed}

pub hit_same : (k : ℕ) → hit k k ≡ 1
unfolding hit
hit_same k = go (ℕ_discrete k k)
  where
    go : (d : Dec (k ≡ k)) → one_if d ≡ 1
    go (yes e) = refl
    go (no d) = absurd (d refl)

pub hit_other : (i k : ℕ) → i ≢ k → hit i k ≡ 0
unfolding hit
hit_other i k h = go (ℕ_discrete i k)
  where
    go : (d : Dec (i ≡ k)) → one_if d ≡ 0
    go (yes e) = absurd (h e)
    go (no d) = refl

module _ {S : Type 0} (step : ℕ → S → S) where
  pub run_append : (xs ys : List ℕ) (s : S) → run step s (xs ++ ys) ≡ run step (run step s xs) ys
  run_append [] ys s = refl
  run_append (k ∷ xs) ys s = run_append xs ys (step k s)

  -- an order of two parts is accepted where the first is, and the second after it
  module _ (Ok : S → ℕ → Type 0) where
    pub accepted_append : (xs ys : List ℕ) (s : S) → Allowed step Ok s xs → Allowed step Ok (run step s xs) ys → Allowed step Ok s (xs ++ ys)
    accepted_append [] ys s a b = b
    accepted_append (k ∷ xs) ys s a b = (a.0, accepted_append xs ys (step k s) a.1 b)

    pub accepted_prefix : (xs ys : List ℕ) (s : S) → Allowed step Ok s (xs ++ ys) → Allowed step Ok s xs
    accepted_prefix [] ys s a = tt
    accepted_prefix (k ∷ xs) ys s a = (a.0, accepted_prefix xs ys (step k s) a.1)

    pub accepted_suffix : (xs ys : List ℕ) (s : S) → Allowed step Ok s (xs ++ ys) → Allowed step Ok (run step s xs) ys
    accepted_suffix [] ys s a = a
    accepted_suffix (k ∷ xs) ys s a = accepted_suffix xs ys (step k s) a.1
