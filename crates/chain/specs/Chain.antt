-- The top stages as a chain whose steps an order can name. Definitions only.
use Rattle.std.specs.Prelude.{List, [], ◌∷◌, ℕ, suc, ◌*◌, ◌-◌, ◌/◌, ◌≤◌, length, Float}
use Rattle.line.specs.Held.{Held, holds, Ran, ran}
use Rattle.line.specs.Frames.{frame_at}
use Rattle.theory_order.specs.Stretch.{part, splice}
use Rattle.theory_order.specs.Order.{run, Allowed}
use Rattle.theory_order.specs.Chain.{Out, State, Chain, step, Ok, Inv}
use Rattle.memories.specs.Sizes.{place_positions, place_floats}
use Rattle.stage.specs.declared.setup.Setup.{Setup}
use Rattle.stage.specs.Setup.{used_of}
use Rattle.line_layout.specs.Layout.{start_of, starts_of, needed_of}
use Rattle.stage_step.specs.Step.{process_at}
use Rattle.top_stages.specs.Tops.{top_at, tops_of}

-- ---- what some stages hold, within what all stages hold

-- what the stages at list places i to e - 1 hold: their lines, positions and floats
unfoldable pub stretch : Setup → ℕ → ℕ → Held → Held
stretch setup i e h =
    holds (part (start_of setup i) (start_of setup e - start_of setup i) h.store)
    (part (place_positions * i) (place_positions * e - place_positions * i) h.positions)
    (part (place_floats * i) (place_floats * e - place_floats * i) h.floats)

-- what all stages hold, with `a` written over it from list place i on, as far as `a` goes
unfoldable pub replaced : Setup → ℕ → Held → Held → Held
replaced setup i a h =
    holds (splice (start_of setup i) a.store h.store)
    (splice (place_positions * i) a.positions h.positions)
    (splice (place_floats * i) a.floats h.floats)

-- there is room for what all stages hold: the needed floats, and the positions and floats of every place that is used
pub record Room (setup : Setup) (h : Held) : Type 0 where
  pub store : needed_of setup ≤ length h.store
  pub positions : place_positions * used_of setup ≤ length h.positions
  pub floats : place_floats * used_of setup ≤ length h.floats

-- ---- the chain

-- what a stage gave, its frame written as two samples
abbrev pub out_of : Ran → Out Float Held
out_of r = record { frame = r.frame.left ∷ (r.frame.right ∷ []); held = r.held }

-- the top stages as a chain: a step of top stage k is `process_at` on its list place, with the stages that it owns
abbrev pub chain_of : Setup → Chain Float Held
chain_of setup = record {
  n = tops_of setup;
  own = λ k h. stretch setup (top_at setup k) (top_at setup (suc k)) h;
  put = λ k a h. replaced setup (top_at setup k) a h;
  make = λ k _ x a.
      out_of (process_at setup (starts_of setup) (top_at setup k) (top_at setup (suc k)) (ran (frame_at 0 x) a));
}

-- the state of a block: its samples, the line store, the remembered positions and floats, and the progress
abbrev pub state : List Float → List Float → List ℕ → List Float → List ℕ → State Float Held
state samples store positions floats progress =
    record { samples = samples; held = holds store positions floats; progress = progress }

-- how many frames a block of these samples has, two samples to a frame
abbrev pub frames_of : List Float → ℕ
frames_of samples = length samples / 2

-- ---- a step, and an order

-- a block can be run: there is room for all, and no top stage is past the last frame or ahead of one before it
abbrev pub Ready : Setup → State Float Held → Type 0
Ready setup s = Inv (chain_of setup) (Room setup) (frames_of s.samples) s

-- top stage k may be run on its next frame
abbrev pub May : Setup → State Float Held → ℕ → Type 0
May setup s k = Ok (chain_of setup) (frames_of s.samples) s k

-- each entry of the order may be run, after the entries before it
abbrev pub Orderly : Setup → State Float Held → List ℕ → Type 0
Orderly setup s order =
    Allowed (step (chain_of setup) (frames_of s.samples)) (Ok (chain_of setup) (frames_of s.samples)) s order

-- what is left once top stage k is run on its next frame
abbrev pub stepped : Setup → ℕ → State Float Held → State Float Held
stepped setup k s = step (chain_of setup) (frames_of s.samples) k s

-- what is left once the order is run, entry by entry
abbrev pub ordered : Setup → State Float Held → List ℕ → State Float Held
ordered setup s order = run (step (chain_of setup) (frames_of s.samples)) s order
