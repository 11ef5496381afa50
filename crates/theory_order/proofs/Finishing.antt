-- From any state that holds between steps, `finishing` is accepted and brings every stage to the last frame; so whatever else
-- does leaves the same.
use Rattle.std.proofs.Common.{◌≡◌, refl, ◌∙◌, ◌≢◌, List, ◌++◌, ℕ, zero, suc, ◌+◌, ◌-◌, ◌≤◌, ◌<◌, arith, get_or, replicate}
use native.Mathlib.Decide.{ℕ_discrete}
use Rattle.theory_order.specs.Order.{run, Allowed}
use Rattle.theory_order.specs.Chain.{State, Chain, at, step, Ok, Local, Inv}
use Rattle.theory_order.specs.Finish.{frames_to_go, finishing_from, finishing}
use Rattle.theory_order.specs.Claims.{Finishes}
use Rattle.theory_order.proofs.Orders.{run_append, accepted_append}
use Rattle.theory_order.proofs.OneStep.{one_step}
use Rattle.theory_order.proofs.Agree.{finishes_agree}

module _ {X H : Type 0} (C : Chain X H) (Fits : H → Type 0) (Sized : ℕ → H → Type 0) (L : Local C Fits Sized) (F : ℕ) where
  -- the stages before k are at the last frame
  record Up (k : ℕ) (s : State X H) : Type 0 where
    inv : Inv C Fits F s
    past : (j : ℕ) → j < k → at s j ≡ F

  -- ---- stage k, d times

  record Moved (k d : ℕ) (s z : State X H) : Type 0 where
    accepted : Allowed (step C F) (Ok C F) s (replicate d k)
    up : Up (suc k) z
    others : (j : ℕ) → j ≢ k → at z j ≡ at s j

  may : (k d : ℕ) (s : State X H) → suc d + at s k ≡ F → k < C.n → Up k s → Ok C F s k
  may k d s e h u = record { inside = h; room = omega arith; behind = λ l. omega (arith, u.past (k - 1) (omega arith)) }

  moved : (k d : ℕ) (s : State X H) → d + at s k ≡ F → k < C.n → Up k s → Moved k d s (run (step C F) s (replicate d k))
  moved k zero s e h u = record { accepted = tt; up = record { inv = u.inv; past = λ j l. go j l (ℕ_discrete j k) }; others = λ j d. refl }
    where
      go : (j : ℕ) → j < suc k → Dec (j ≡ k) → at s j ≡ F
      go j l (yes q) = rw q (omega arith)
      go j l (no d) = u.past j (omega arith)
  moved k (suc d) s e h u =
      let c = may k d s e h u in
      let o = one_step C Fits Sized L F s k u.inv c in
      let r = moved k d (step C F k s) (omega (arith, o.moved)) h (record { inv = o.inv; past = λ j l. o.others j (omega arith) ∙ u.past j l }) in
      record { accepted = (c, r.accepted); up = r.up; others = λ j q. r.others j q ∙ o.others j q }

  -- ---- stage k, and those after it

  then : (k d : ℕ) (ys : List ℕ) (s : State X H) → d + at s k ≡ F → k < C.n → Up k s
      → ((z : State X H) → Up (suc k) z → ((j : ℕ) → j ≢ k → at z j ≡ at s j) → Finishes C F z ys) → Finishes C F s (replicate d k ++ ys)
  then k d ys s e h u f =
      let o = moved k d s e h u in
      let r = f (run (step C F) s (replicate d k)) o.up o.others in
      record { accepted = accepted_append (step C F) (Ok C F) (replicate d k) ys s o.accepted r.accepted; done = rw run_append r.done }

  from_here : (k m : ℕ) (p : List ℕ) (s : State X H) → k + m ≡ C.n → Up k s → ((j : ℕ) → k ≤ j → at s j ≡ get_or p j 0) → Finishes C F s (finishing_from k m F p)
  unfolding finishing_from
  from_here k zero p s e u q = record { accepted = tt; done = λ j l. u.past j (omega arith) }
  from_here k (suc m) p s e u q =
      then k (frames_to_go F p k) _ s (omega (arith, q k (omega arith), u.inv.within k (omega arith))) (omega arith) u
      (λ z w o. from_here (suc k) m p z (omega arith) w (λ j l. o j (omega arith) ∙ q j (omega arith)))

  pub finishing_finishes : (s : State X H) → Inv C Fits F s → Finishes C F s (finishing C.n F s.progress)
  finishing_finishes s v = from_here 0 C.n s.progress s (omega arith) (record { inv = v; past = λ j l. absurd (omega arith) }) (λ j l. refl)

  pub leaves_finishing : (xs : List ℕ) (s : State X H) → Inv C Fits F s → Finishes C F s xs → run (step C F) s xs ≡ run (step C F) s (finishing C.n F s.progress)
  leaves_finishing xs s v a = finishes_agree C Fits Sized L F xs (finishing C.n F s.progress) s v a (finishing_finishes s v)
