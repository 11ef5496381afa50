-- Whole frame after whole frame is an accepted order that brings every stage to the last frame, and what it leaves is what the
-- recursion `frame_by_frame` says; so both hold of every order that does.
use Rattle.std.proofs.Common.{◌≡◌, refl, sym, ap, ap₂, ◌∙◌, subst, List, ◌++◌, ℕ, zero, suc, ◌+◌, ◌*◌, ◌≤◌, arith, take, drop, take-append-drop, drop-drop}
use Rattle.theory_order.specs.Order.{run}
use Rattle.theory_order.specs.Stretch.{part}
use Rattle.theory_order.specs.Chain.{Out, State, moment, Chain, step, Ok, Done, Local, Inv}
use Rattle.theory_order.specs.Render.{each_once, frames, from, first_frame, rest, followed_by, pass, frame_by_frame_from, frame_by_frame}
use Rattle.theory_order.specs.Claims.{Finishes, Whole}
use Rattle.theory_order.proofs.Orders.{run_append, accepted_append}
use Rattle.theory_order.proofs.Keeps.{run_keeps}
use Rattle.theory_order.proofs.Agree.{finishes_agree}
use Rattle.theory_order.proofs.OneFrame.{swept}

-- frame t, and what is made of the frames after it
glue : {X H : Type 0} (t : ℕ) (s s₁ z : State X H) (q : Out X H) (g : Out X H → Out X H) → first_frame (from t s₁) ≡ q
    → drop (suc t * 2) s₁.samples ≡ drop (suc t * 2) s.samples → part (t * 2) 2 z.samples ≡ part (t * 2) 2 s₁.samples
    → from (suc t) z ≡ g (from (suc t) s₁) → from t z ≡ followed_by q (g (rest q (from t s)))
unfolding first_frame from followed_by rest
glue {X} {H} t s s₁ z q g h₁ h₂ h₃ h₄ =
    subst (λ p. from t z ≡ followed_by p (g (rest p (from t s)))) h₁ (a ∙ ap (followed_by (first_frame (from t s₁))) (h₄ ∙ ap g b))
  where
    two : (l : List X) → drop 2 (drop (t * 2) l) ≡ drop (suc t * 2) l
    two l = let e : t * 2 + 2 ≡ suc t * 2 = omega arith in drop-drop 2 (t * 2) l ∙ ap (λ n. drop n l) e

    c : drop (t * 2) z.samples ≡ take 2 (drop (t * 2) s₁.samples) ++ drop (suc t * 2) z.samples
    c = sym (take-append-drop 2 (drop (t * 2) z.samples)) ∙ ap₂ (λ x y. x ++ y) h₃ (two z.samples)

    a : from t z ≡ followed_by (first_frame (from t s₁)) (from (suc t) z)
    a = λ i. record { frame = c i; held = z.held }

    b : from (suc t) s₁ ≡ rest (first_frame (from t s₁)) (from t s)
    b = λ i. record { frame = (h₂ ∙ sym (two s.samples)) i; held = s₁.held }

module _ {X H : Type 0} (C : Chain X H) (Fits : H → Type 0) (Sized : ℕ → H → Type 0) (L : Local C Fits Sized) (F : ℕ) where
  -- m frames from frame t on
  record Rendered (m t : ℕ) (s : State X H) : Type 0 where
    finishes : Finishes C F s (frames C.n m)
    made_is : from t (run (step C F) s (frames C.n m)) ≡ frame_by_frame_from C F t m (from t s)
    before : (a n : ℕ) → a + n ≤ t * 2 → part a n (run (step C F) s (frames C.n m)).samples ≡ part a n s.samples

  rendered : (m t : ℕ) (s : State X H) → t + m ≡ F → Inv C Fits F s → Done C t s → Rendered m t s
  unfolding frames frame_by_frame_from
  rendered zero t s e v d = record { finishes = record { accepted = tt; done = λ k l. d k l ∙ omega arith }; made_is = refl; before = λ a n h. refl }
  rendered (suc m) t s e v d =
      let w = swept C Fits Sized L F 0 C.n t s (omega arith) (record { inv = v; room = omega arith; past = λ j l. absurd (omega arith); behind = λ j l g. d j g }) in
      let s₁ : State X H = run (step C F) s (each_once 0 C.n) in
      let u = rendered m (suc t) s₁ (omega arith) (run_keeps C Fits Sized L F (each_once 0 C.n) s v w.accepted).inv w.done in
      record {
        finishes = record {
          accepted = accepted_append (step C F) (Ok C F) (each_once 0 C.n) (frames C.n m) s w.accepted u.finishes.accepted;
          done = rw run_append u.finishes.done;
        };
        made_is = rw run_append (glue t s s₁ (run (step C F) s₁ (frames C.n m)) (pass C (moment t F) 0 C.n (first_frame (from t s))) (frame_by_frame_from C F (suc t) m)
            w.made_is w.after (u.before (t * 2) 2 (omega arith)) u.made_is);
        before = λ a n l. rw run_append (u.before a n (omega arith) ∙ w.before a n l);
      }

  -- ---- all frames, from a block that no stage has begun

  pub frames_whole : (s : State X H) → Inv C Fits F s → Done C 0 s → Whole C F s (frames C.n F)
  frames_whole s v z = record { fresh = z; finishes = (rendered F 0 s (omega arith) v z).finishes }

  pub frame_by_frame_lem : (xs : List ℕ) (s : State X H) → Inv C Fits F s → Whole C F s xs → run (step C F) s xs ≡ run (step C F) s (frames C.n F)
  frame_by_frame_lem xs s v w = finishes_agree C Fits Sized L F xs (frames C.n F) s v w.finishes (frames_whole s v w.fresh).finishes

  pub order_renders : (xs : List ℕ) (s : State X H) → Inv C Fits F s → Whole C F s xs → from 0 (run (step C F) s xs) ≡ frame_by_frame C F (from 0 s)
  order_renders xs s v w = ap (from 0) (frame_by_frame_lem xs s v w) ∙ (rendered F 0 s (omega arith) v w.fresh).made_is
