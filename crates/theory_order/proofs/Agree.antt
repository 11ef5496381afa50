-- The order does not matter: two accepted orders that name each stage equally often, or that both bring every stage to the
-- last frame, leave the same.
use Rattle.std.proofs.Common.{◌≡◌, sym, ◌∙◌, List, ℕ, ◌<◌, arith}
use native.Mathlib.Decide.{dec_lt}
use Rattle.theory_order.specs.Order.{count, run, Allowed}
use Rattle.theory_order.specs.Chain.{State, Chain, step, Ok, Local, Inv}
use Rattle.theory_order.specs.Claims.{Finishes}
use Rattle.theory_order.proofs.Diamond.{same_counts}
use Rattle.theory_order.proofs.Swaps.{diamond}
use Rattle.theory_order.proofs.Keeps.{count_beyond, run_keeps}

module _ {X H : Type 0} (C : Chain X H) (Fits : H → Type 0) (Sized : ℕ → H → Type 0) (L : Local C Fits Sized) (F : ℕ) where
  pub orders_agree : (xs ys : List ℕ) (s : State X H) → Inv C Fits F s → Allowed (step C F) (Ok C F) s xs → Allowed (step C F) (Ok C F) s ys
      → ((i : ℕ) → i < C.n → count i xs ≡ count i ys) → run (step C F) s xs ≡ run (step C F) s ys
  orders_agree xs ys s v a b c = same_counts (step C F) (Ok C F) (Inv C Fits F) (diamond C Fits Sized L F) xs ys s v a b (λ i. go i (dec_lt i C.n))
    where
      go : (i : ℕ) → Dec (i < C.n) → count i xs ≡ count i ys
      go i (yes h) = c i h
      go i (no h) = count_beyond C F xs s a i (omega arith) ∙ sym (count_beyond C F ys s b i (omega arith))

  pub finishes_agree : (xs ys : List ℕ) (s : State X H) → Inv C Fits F s → Finishes C F s xs → Finishes C F s ys → run (step C F) s xs ≡ run (step C F) s ys
  finishes_agree xs ys s v a b =
      let p = run_keeps C Fits Sized L F xs s v a.accepted in
      let q = run_keeps C Fits Sized L F ys s v b.accepted in
      orders_agree xs ys s v a.accepted b.accepted (λ i h. omega (arith, p.moved i, q.moved i, a.done i h, b.done i h))
