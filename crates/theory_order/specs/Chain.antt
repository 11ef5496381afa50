-- A chain of stages over a block of frames. Every frame goes through stage 0, then stage 1, and so on. A step runs one
-- stage on its next frame, in place. X is the type of a sample, and a frame is two samples; H is the type of what all
-- stages hold between frames.
use Rattle.std.specs.Prelude.{◌≡◌, ◌≢◌, List, ℕ, suc, ◌-◌, ◌*◌, ◌≤◌, ◌<◌, length, get_or, set}
use Rattle.theory_order.specs.Stretch.{part, splice}

-- what a stage makes: a frame, and what it holds from then on
pub record Out (X H : Type 0) : Type 0 where
  pub frame : List X
  pub held : H

-- the state of a block: its samples, what all stages hold, and the progress: how many frames each stage has run
pub record State (X H : Type 0) : Type 0 where
  pub samples : List X
  pub held : H
  pub progress : List ℕ

-- where in a block a step is: the number of its frame, from 0, and how many frames the block has
pub record Moment : Type 0 where
  pub frame : ℕ
  pub frames : ℕ

-- this frame, in a block of so many frames
abbrev pub moment : ℕ → ℕ → Moment
moment frame frames = record { frame = frame; frames = frames }

-- n stages. `own` takes what stage k holds out of what all hold; `make` says what the stage makes of this and a frame,
-- at a moment of the block; `put` puts what it then holds back into what all hold
pub record Chain (X H : Type 0) : Type 0 where
  pub n : ℕ
  pub own : ℕ → H → H
  pub put : ℕ → H → H → H
  pub make : ℕ → Moment → List X → H → Out X H

-- stage k, of n, may take a step in a block of F frames. Only the progress p decides: there is such a stage, it has a
-- frame left, and the stage before it, if there is one, has run that frame
pub record OkFrom (n F : ℕ) (p : List ℕ) (k : ℕ) : Type 0 where
  pub inside : k < n
  pub room : get_or p k 0 < F
  pub behind : 0 < k → get_or p k 0 < get_or p (k - 1) 0

module _ {X H : Type 0} where
  -- how many frames stage k has run, which is the number of its next frame
  abbrev pub at : State X H → ℕ → ℕ
  at s k = get_or s.progress k 0

  module _ (C : Chain X H) where
    -- ---- a step of stage k, in a block of F frames

    -- what stage k makes of its next frame and of what it holds
    unfoldable pub out : ℕ → ℕ → State X H → Out X H
    out F k s = C.make k (moment (at s k) F) (part (at s k * 2) 2 s.samples) (C.own k s.held)

    -- the state after stage k made r of frame p: the new frame stands where the old one was, what the stage holds is
    -- put back, and its progress is p + 1
    unfoldable pub put : ℕ → ℕ → Out X H → State X H → State X H
    put k p r s = record {
      samples = splice (p * 2) r.frame s.samples;
      held = C.put k r.held s.held;
      progress = set s.progress k (suc p);
    }

    -- stage k is run on its next frame, in place
    unfoldable pub step : ℕ → ℕ → State X H → State X H
    step F k s = put k (at s k) (out F k s) s

    -- stage k may take a step
    abbrev pub Ok : ℕ → State X H → ℕ → Type 0
    Ok F s k = OkFrom C.n F s.progress k

    -- every stage has run exactly F frames
    abbrev pub Done : ℕ → State X H → Type 0
    Done F s = (k : ℕ) → k < C.n → at s k ≡ F

    -- ---- what a chain has to meet; `Fits` is a condition on what all stages hold, and `Sized k` on what stage k holds

    module _ (Fits : H → Type 0) (Sized : ℕ → H → Type 0) where
      -- what stage k makes is one frame, and what it then holds meets `Sized k`
      pub record Made (k : ℕ) (r : Out X H) : Type 0 where
        pub frame : length r.frame ≡ 2
        pub held : Sized k r.held

      -- stages keep to their own: putting back what one stage holds does not change what another holds, and what two
      -- stages hold can be put back in either order
      pub record Local : Type 0 where
        pub makes : (k : ℕ) (m : Moment) (x : List X) (a : H) → k < C.n → length x ≡ 2 → Sized k a
            → Made k (C.make k m x a)
        pub own_sized : (k : ℕ) (h : H) → k < C.n → Fits h → Sized k (C.own k h)
        pub put_fits : (k : ℕ) (a h : H) → k < C.n → Fits h → Sized k a → Fits (C.put k a h)
        pub own_apart : (j k : ℕ) (a h : H) → j ≢ k → j < C.n → k < C.n → Fits h → Sized j a
            → C.own k (C.put j a h) ≡ C.own k h
        pub put_apart : (j k : ℕ) (a b h : H) → j < k → k < C.n → Fits h → Sized j a → Sized k b
            → C.put j a (C.put k b h) ≡ C.put k b (C.put j a h)

    -- what a stage makes does not depend on where in its block a frame is: asked only of a chain whose blocks are cut
    abbrev pub Steady : Type 0
    Steady = (k : ℕ) (m m' : Moment) (x : List X) (a : H) → C.make k m x a ≡ C.make k m' x a

    -- what holds between steps, in a block of F frames: there are samples and progress for all, what stages hold meets
    -- `Fits`, no stage is past the last frame, and none is ahead of one before it
    pub record Inv (Fits : H → Type 0) (F : ℕ) (s : State X H) : Type 0 where
      pub samples : F * 2 ≤ length s.samples
      pub held : Fits s.held
      pub stages : C.n ≤ length s.progress
      pub within : (k : ℕ) → k < C.n → at s k ≤ F
      pub falls : (a b : ℕ) → a ≤ b → b < C.n → at s b ≤ at s a
