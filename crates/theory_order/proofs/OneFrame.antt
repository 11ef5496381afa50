-- One frame through all stages, one after the other: an accepted order, which changes no other frame.
use Rattle.std.proofs.Common.{◌≡◌, refl, ap, ◌∙◌, ℕ, zero, suc, ◌+◌, ◌-◌, ◌*◌, ◌≤◌, ◌<◌, arith, drop}
use native.Mathlib.Decide.{ℕ_discrete}
use Rattle.theory_order.specs.Order.{run, Allowed}
use Rattle.theory_order.specs.Stretch.{part}
use Rattle.theory_order.specs.Chain.{State, moment, Chain, at, out, put, step, Ok, Done, Local, Inv}
use Rattle.theory_order.specs.Render.{each_once, from, first_frame, put_back, through, pass}
use Rattle.theory_order.specs.Claims.{Stepped}
use Rattle.theory_order.proofs.OneStep.{one_step}

module _ {X H : Type 0} (C : Chain X H) (Fits : H → Type 0) (Sized : ℕ → H → Type 0) (L : Local C Fits Sized) (F : ℕ) where
  -- a step, seen from the frame that it is at
  first_step : (s : State X H) (k : ℕ) → Inv C Fits F s → Ok C F s k → first_frame (from (at s k) (step C F k s)) ≡ through C (moment (at s k) F) k (first_frame (from (at s k) s))
  unfolding first_frame from through put_back step put out
  first_step s k v c = λ i. record { frame = (one_step C Fits Sized L F s k v c).frame i; held = (step C F k s).held }

  -- ---- frame t has been through the stages before k

  pub record Under (k t : ℕ) (s : State X H) : Type 0 where
    pub inv : Inv C Fits F s
    pub room : t < F
    pub past : (j : ℕ) → j < k → at s j ≡ suc t
    pub behind : (j : ℕ) → k ≤ j → j < C.n → at s j ≡ t

  under_ok : (k t : ℕ) (s : State X H) → Under k t s → k < C.n → Ok C F s k
  under_ok k t s u h =
      let e = u.behind k (omega arith) h in
      record { inside = h; room = omega arith; behind = λ l. omega (arith, u.past (k - 1) (omega arith)) }

  under_step : (k t : ℕ) (s : State X H) (u : Under k t s) (h : k < C.n) → Under (suc k) t (step C F k s)
  under_step k t s u h = record { inv = o.inv; room = u.room; past = λ j l. go j l (ℕ_discrete j k); behind = λ j l g. o.others j (omega arith) ∙ u.behind j (omega arith) g }
    where
      o : Stepped C Fits F k s (step C F k s)
      o = one_step C Fits Sized L F s k u.inv (under_ok k t s u h)

      go : (j : ℕ) → j < suc k → Dec (j ≡ k) → at (step C F k s) j ≡ suc t
      go j l (yes e) = rw e (o.moved ∙ ap suc (u.behind k (omega arith) h))
      go j l (no d) = o.others j d ∙ u.past j (omega arith)

  -- ---- and goes through the m others

  pub record Swept (k m t : ℕ) (s : State X H) : Type 0 where
    pub accepted : Allowed (step C F) (Ok C F) s (each_once k m)
    pub done : Done C (suc t) (run (step C F) s (each_once k m))
    pub made_is : first_frame (from t (run (step C F) s (each_once k m))) ≡ pass C (moment t F) k m (first_frame (from t s))
    pub before : (a n : ℕ) → a + n ≤ t * 2 → part a n (run (step C F) s (each_once k m)).samples ≡ part a n s.samples
    pub after : drop (suc t * 2) (run (step C F) s (each_once k m)).samples ≡ drop (suc t * 2) s.samples

  pub swept : (k m t : ℕ) (s : State X H) → k + m ≡ C.n → Under k t s → Swept k m t s
  unfolding each_once pass
  swept k zero t s e u = record { accepted = tt; done = λ j l. u.past j (omega arith); made_is = refl; before = λ a n h. refl; after = refl }
  swept k (suc m) t s e u =
      let h : k < C.n = omega arith in
      let c = under_ok k t s u h in
      let o = one_step C Fits Sized L F s k u.inv c in
      let q : at s k ≡ t = u.behind k (omega arith) h in
      let r = swept (suc k) m t (step C F k s) (omega arith) (under_step k t s u h) in
      record {
        accepted = (c, r.accepted);
        done = r.done;
        made_is = r.made_is ∙ ap (pass C (moment t F) (suc k) m) (rw q at (first_step s k u.inv c));
        before = λ a n l. r.before a n l ∙ o.before a n (omega arith);
        after = r.after ∙ (rw q at o.after);
      }
