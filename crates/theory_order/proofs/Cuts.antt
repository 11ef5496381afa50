-- A block cut at any frame leaves what its two parts leave, the second begun with what the first left, where no stage's doing
-- depends on where in a block it is: by `frame_by_frame`, which knows no order. Assumes nothing.
use Rattle.std.proofs.Common.{◌≡◌, refl, sym, ap, ap₂, ◌∙◌, List, [], ◌∷◌, ◌++◌, append_assoc, ℕ, zero, suc, ◌+◌, ◌*◌, arith, add-zero, suc-add, zero-add, length}
use Rattle.theory_order.specs.Order.{run}
use Rattle.theory_order.specs.Chain.{Out, State, Moment, moment, Chain, step, Local, Steady, Inv}
use Rattle.theory_order.specs.Render.{from, first_frame, rest, followed_by, through, pass, frame_by_frame_from, frame_by_frame}
use Rattle.theory_order.specs.Claims.{Whole, Cut}
use Rattle.theory_order.proofs.FrameByFrame.{order_renders}

-- ---- rendering c + d frames is rendering c of them, and then d

block : {X H : Type 0} → List X → H → Out X H
block xs h = record { frame = xs; held = h }

followed_by_assoc : {X H : Type 0} (q r u : Out X H) → followed_by q (followed_by r u) ≡ followed_by (followed_by q r) u
unfolding followed_by
followed_by_assoc q r u = λ i. record { frame = sym (append_assoc q.frame r.frame u.frame) i; held = u.held }

module _ {X H : Type 0} (C : Chain X H) where
  frames_append : (F t c d : ℕ) (xs ys : List X) (h : H) → length xs ≡ c * 2
      → frame_by_frame_from C F t (c + d) (block (xs ++ ys) h)
      ≡ followed_by (frame_by_frame_from C F t c (block xs h))
      (frame_by_frame_from C F (t + c) d (block ys (frame_by_frame_from C F t c (block xs h)).held))
  unfolding frame_by_frame_from followed_by block first_frame rest
  frames_append F t zero d [] ys h e = rw (zero-add, add-zero)
  frames_append F t zero d (x ∷ xs) ys h e = absurd (omega arith)
  frames_append F t (suc c) d [] ys h e = absurd (omega arith)
  frames_append F t (suc c) d (x ∷ []) ys h e = absurd (omega arith)
  frames_append F t (suc c) d (x ∷ (y ∷ xs)) ys h e =
      let q = pass C (moment t F) 0 C.n (block (x ∷ (y ∷ [])) h) in
      let r = frame_by_frame_from C F (suc t) c (block xs q.held) in
      let n : suc t + c ≡ t + suc c = omega arith in
      rw suc-add
      (ap (followed_by q) (rw n at (frames_append F (suc t) c d xs ys q.held (omega arith)))
      ∙ followed_by_assoc q r (frame_by_frame_from C F (t + suc c) d (block ys r.held)))

  -- ---- and each part may count its own frames, where what a stage makes does not depend on the count

  module _ (W : Steady C) where
    pass_anywhere : (m m' : Moment) (k n : ℕ) (r : Out X H) → pass C m k n r ≡ pass C m' k n r
    unfolding pass through
    pass_anywhere m m' k zero r = refl
    pass_anywhere m m' k (suc n) r = rw (W k m m' r.frame (C.own k r.held)) (pass_anywhere m m' (suc k) n _)

    frames_anywhere : (F t F' t' m : ℕ) (r : Out X H) → frame_by_frame_from C F t m r ≡ frame_by_frame_from C F' t' m r
    unfolding frame_by_frame_from
    frames_anywhere F t F' t' zero r = refl
    frames_anywhere F t F' t' (suc m) r =
        rw (pass_anywhere (moment t F) (moment t' F') 0 C.n (first_frame r))
        (ap (followed_by _) (frames_anywhere F (suc t) F' (suc t') m _))

    frames_cut : (c d : ℕ) (xs ys : List X) (h : H) → length xs ≡ c * 2
        → frame_by_frame C (c + d) (block (xs ++ ys) h)
        ≡ followed_by (frame_by_frame C c (block xs h)) (frame_by_frame C d (block ys (frame_by_frame C c (block xs h)).held))
    frames_cut c d xs ys h e =
        let r₁ = frame_by_frame C c (block xs h) in
        frames_append (c + d) 0 c d xs ys h e
        ∙ rw (frames_anywhere (c + d) 0 c 0 c (block xs h), frames_anywhere (c + d) (0 + c) d 0 d (block ys r₁.held))

-- ---- the cut

module _ {X H : Type 0} (C : Chain X H) (Fits : H → Type 0) (Sized : ℕ → H → Type 0) (L : Local C Fits Sized) (W : Steady C) where
  -- s is the c frames of s₁ and the d frames of s₂, which begins with what s₁ left
  pub cut_parts : (c d : ℕ) (s s₁ s₂ : State X H) (e a b : List ℕ)
      → length s₁.samples ≡ c * 2 → s.samples ≡ s₁.samples ++ s₂.samples → s.held ≡ s₁.held → s₂.held ≡ (run (step C c) s₁ a).held
      → Inv C Fits (c + d) s → Whole C (c + d) s e → Inv C Fits c s₁ → Whole C c s₁ a → Inv C Fits d s₂ → Whole C d s₂ b
      → Cut (run (step C (c + d)) s e) (run (step C c) s₁ a) (run (step C d) s₂ b)
  unfolding from block followed_by
  cut_parts c d s s₁ s₂ e a b l p q h v w v₁ w₁ v₂ w₂ = record { samples = λ i. (z i).frame; held = λ i. (z i).held }
    where
      r₁ : Out X H
      r₁ = frame_by_frame C c (from 0 s₁)

      first_is : from 0 (run (step C c) s₁ a) ≡ r₁
      first_is = order_renders C Fits Sized L c a s₁ v₁ w₁

      second_is : from 0 (run (step C d) s₂ b) ≡ frame_by_frame C d (block s₂.samples r₁.held)
      second_is = order_renders C Fits Sized L d b s₂ v₂ w₂ ∙ ap (λ g. frame_by_frame C d (block s₂.samples g)) (h ∙ ap (λ (u : Out X H). u.held) first_is)

      z : from 0 (run (step C (c + d)) s e) ≡ followed_by (from 0 (run (step C c) s₁ a)) (from 0 (run (step C d) s₂ b))
      z = order_renders C Fits Sized L (c + d) e s v w
          ∙ ap₂ (λ x g. frame_by_frame C (c + d) (block x g)) p q
          ∙ frames_cut C W c d s₁.samples s₂.samples s₁.held l
          ∙ sym (ap₂ followed_by first_is second_is)
