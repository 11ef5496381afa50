-- No entry of an order is stuck exactly where the theory of orders allows it: each entry may be run after those before it. Assumes nothing.
use Rattle.std.proofs.Common.{inl, inr, List, [], ◌∷◌, ℕ, zero, suc, ◌<◌, arith, lt_of_not-le, length}
use Rattle.theory_order.specs.Order.{Allowed}
use Rattle.theory_order.specs.Chain.{OkFrom}
use Rattle.theory_tables.specs.Condition.{Holds}
use Rattle.order_entries.specs.Entries.{tick, stuck}

module _ (tops frames : ℕ) where
  abbrev Runs : List ℕ → List ℕ → Type 0
  Runs progress order = Allowed tick (OkFrom tops frames) progress order

  abbrev Free : List ℕ → List ℕ → Type 0
  Free progress order = (i : ℕ) → i < length order → Holds (stuck tops frames progress order i) → ⊥

  pub free_runs : (progress order : List ℕ) → Free progress order → Runs progress order
  unfolding stuck
  free_runs progress [] f = tt
  free_runs progress (k ∷ ks) f = (
    record {
      inside = lt_of_not-le (λ q. f 0 (omega arith) (inl (inl q)));
      room = lt_of_not-le (λ q. f 0 (omega arith) (inl (inr q)));
      behind = λ g. lt_of_not-le (λ q. f 0 (omega arith) (inr (g, q)));
    },
    free_runs (tick k progress) ks (λ i h. f (suc i) (omega arith)),
  )

  pub runs_free : (progress order : List ℕ) → Runs progress order → Free progress order
  unfolding stuck
  runs_free progress [] r i h q = absurd (omega arith)
  runs_free progress (k ∷ ks) r zero h (inl (inl q)) = omega (arith, r.0.inside)
  runs_free progress (k ∷ ks) r zero h (inl (inr q)) = omega (arith, r.0.room)
  runs_free progress (k ∷ ks) r zero h (inr q) = omega (arith, r.0.behind q.0, q.1)
  runs_free progress (k ∷ ks) r (suc i) h q = runs_free (tick k progress) ks r.1 i (omega arith) q
