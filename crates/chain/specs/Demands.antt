-- Demands 2 and 3 of the user, sentence by sentence, about what `run` and `render` answer and leave. Crate
-- theory_demands has a theorem for each. Definitions only.
use Rattle.std.specs.Prelude.{◌≡◌, ◌≢◌, true, ℕ, suc, ◌*◌, ◌≤◌, ◌<◌, Float}
use Rattle.std.specs.Prelude.{List, [], ◌∷◌, ◌++◌, length, take, drop, replicate}
use Rattle.line.specs.Held.{Held}
use Rattle.theory_order.specs.Stretch.{part}
use Rattle.theory_order.specs.Order.{count}
use Rattle.theory_order.specs.Chain.{State, at, out}
use Rattle.theory_order.specs.Render.{frames, from, frame_by_frame}
use Rattle.theory_order.specs.Claims.{begin, Cut}
use Rattle.stage.specs.declared.setup.Setup.{Setup}
use Rattle.memories.specs.Sizes.{places, place_positions, place_floats, all_positions, all_floats}
use Rattle.line_layout.specs.Layout.{start_of}
use Rattle.answer.specs.Answer.{accepted_of}
use Rattle.top_stages.specs.Tops.{top_at, tops_of}
use Rattle.chain.specs.Chain.{stretch, chain_of, frames_of, stepped, Orderly}
use Rattle.chain.specs.Run.{answer_on, leaves_of, order_to_end, rendered_of}

-- the memories and the progress have the lengths that the types of their arrays say
pub record Arrays (s : State Float Held) : Type 0 where
  pub positions : length s.held.positions ≡ all_positions
  pub floats : length s.held.floats ≡ all_floats
  pub progress : length s.progress ≡ places

-- zs is as long as xs, and the same before place a and from place e on
pub record Outside {A : Type 0} (a e : ℕ) (xs zs : List A) : Type 0 where
  pub lengths : length zs ≡ length xs
  pub before : take a zs ≡ take a xs
  pub after : drop e zs ≡ drop e xs

module _ (setup : Setup) where
  -- a call with this order is accepted
  abbrev pub Taken : State Float Held → List ℕ → Type 0
  Taken s order = accepted_of (answer_on setup s order) ≡ true

  -- every top stage has run exactly so many frames
  abbrev pub AllAt : ℕ → State Float Held → Type 0
  AllAt frame s = (k : ℕ) → k < tops_of setup → at s k ≡ frame

  -- the order is accepted, and "brings every stage from nothing to the last frame": by what `run` answers and leaves
  pub record Finishing (s : State Float Held) (order : List ℕ) : Type 0 where
    pub taken : Taken s order
    pub fresh : AllAt 0 s
    pub done : AllAt (frames_of s.samples) (leaves_of setup s order)

  -- ---- Demand 2: "each accepted step gives the Rust's bits". Here: an accepted step is the one that the definitions
  -- say. That it is a frame through an effect as kira has it is `StepsWhole` of crate theory_whole_steps; that such an
  -- effect gives the Rust's bits is not proved but compared, by the programs of compare/

  -- one call with k and then the order leaves what two calls leave, one with k alone and one with the order; and the
  -- call with k alone leaves what the definition of a step says
  pub record SingleSteps (s : State Float Held) (k : ℕ) (order : List ℕ) : Type 0 where
    -- k alone is accepted, and so is the order after it
    pub first : Taken s (k ∷ [])
    pub others : Taken (leaves_of setup s (k ∷ [])) order
    pub same : leaves_of setup s (k ∷ order) ≡ leaves_of setup (leaves_of setup s (k ∷ [])) order
    -- k alone leaves what the definition of a step says
    pub step_is : leaves_of setup s (k ∷ []) ≡ stepped setup k s

  -- ---- Demand 3: "a step runs one stage on its next frame, never ahead of the stage before it"

  -- the list place of top stage k; the stages that it owns come right after it
  abbrev pub start_place : ℕ → ℕ
  start_place k = top_at setup k

  -- the list place after top stage k and the stages that it owns: where the next top stage stands, if there is one
  abbrev pub end_place : ℕ → ℕ
  end_place k = top_at setup (suc k)

  -- what top stage k and the stages that it owns hold: their lines and memories
  abbrev pub held_by : ℕ → State Float Held → Held
  held_by k s = stretch setup (start_place k) (end_place k) s.held

  -- the next frame of top stage k: its left and its right sample
  abbrev pub next_frame : ℕ → State Float Held → List Float
  next_frame k s = part (at s k * 2) 2 s.samples

  -- z is s after a step of top stage k: the step has run this stage on its next frame and changed nothing else
  pub record OneStep (k : ℕ) (s z : State Float Held) : Type 0 where
    -- the frame at k's progress is now what the stage makes of it, and no other sample has changed
    pub frame : part (at s k * 2) 2 z.samples ≡ (out (chain_of setup) (frames_of s.samples) k s).frame
    pub samples : Outside (at s k * 2) (suc (at s k) * 2) s.samples z.samples
    -- the lines and memories of stage k and of the stages that it owns are now what the step makes of them; all others,
    -- and "floats past the last line", have not changed
    pub held : held_by k z ≡ (out (chain_of setup) (frames_of s.samples) k s).held
    pub store : Outside (start_of setup (start_place k)) (start_of setup (end_place k)) s.held.store z.held.store
    pub positions : Outside (place_positions * start_place k) (place_positions * end_place k)
        s.held.positions z.held.positions
    pub floats : Outside (place_floats * start_place k) (place_floats * end_place k) s.held.floats z.held.floats
    -- the progress of stage k is one more, and every other stage's is as it was
    pub moved : at z k ≡ suc (at s k)
    pub others : (j : ℕ) → j ≢ k → at z j ≡ at s j
    -- no stage is ahead of one before it
    pub falls : (a b : ℕ) → a ≤ b → b < tops_of setup → at z b ≤ at z a

  -- ---- document 01, of "floats past the last line": "a step's answer doesn't depend on them or on lines of stages it
  -- doesn't run"

  -- two blocks agree on stage k's next frame, and on what stage k and the stages that it owns hold
  pub record Alike (k : ℕ) (s t : State Float Held) : Type 0 where
    pub frame : next_frame k s ≡ next_frame k t
    pub held : held_by k s ≡ held_by k t

  -- a step of stage k gives the same frame in both blocks, and leaves the same in `held_by k`
  pub record SameAnswer (k : ℕ) (s t : State Float Held) : Type 0 where
    pub frame : part (at s k * 2) 2 (leaves_of setup s (k ∷ [])).samples
        ≡ part (at t k * 2) 2 (leaves_of setup t (k ∷ [])).samples
    pub held : held_by k (leaves_of setup s (k ∷ [])) ≡ held_by k (leaves_of setup t (k ∷ []))

-- "a run is promised to equal its single steps, one after another, by demand 2's definition of a step": this is so of
-- every accepted order that has an entry
abbrev pub StepByStep : Type 0
StepByStep = (setup : Setup) (s : State Float Held) (k : ℕ) (order : List ℕ) → Arrays s → Taken setup s (k ∷ order)
    → SingleSteps setup s k order

-- an order is accepted exactly where an empty one is and each of its entries may be run, once the steps of the entries
-- before it are taken
pub record ByEntries (setup : Setup) (s : State Float Held) (order : List ℕ) : Type 0 where
  pub empty : Taken setup s order → Taken setup s []
  pub orderly : Taken setup s order → Orderly setup s order
  pub taken : Taken setup s [] → Orderly setup s order → Taken setup s order

-- "progress is counted entry by entry for check 11", and it is the progress that the steps themselves leave
abbrev pub EntriesDecide : Type 0
EntriesDecide = (setup : Setup) (s : State Float Held) (order : List ℕ) → ByEntries setup s order

-- "a step runs one stage on its next frame, never ahead of the stage before it": this is so of every accepted step
abbrev pub StepsKeepApart : Type 0
StepsKeepApart = (setup : Setup) (s : State Float Held) (k : ℕ) → Arrays s → Taken setup s (k ∷ [])
    → OneStep setup k s (leaves_of setup s (k ∷ []))

-- "a step's answer doesn't depend on them or on lines of stages it doesn't run": in blocks that are alike for stage k,
-- an accepted step of it gives and leaves the same
abbrev pub StepsStandAlone : Type 0
StepsStandAlone = (setup : Setup) (s t : State Float Held) (k : ℕ) → Arrays s → Arrays t → Taken setup s (k ∷ [])
    → Taken setup t (k ∷ []) → Alike setup k s t → SameAnswer setup k s t

-- "from equal rate, settings, samples, lines, memories and progress, any two accepted orders that name each stage
-- equally often leave all of these equal"
abbrev pub AnyOrder : Type 0
AnyOrder = (setup : Setup) (s : State Float Held) (xs ys : List ℕ) → Arrays s → Taken setup s xs → Taken setup s ys
    → ((k : ℕ) → k < tops_of setup → count k xs ≡ count k ys) → leaves_of setup s xs ≡ leaves_of setup s ys

-- the order leaves "what demand 2's rendering, whole frame after whole frame, leaves". That rendering has two
-- definitions: the order `frames`, which is accepted too, and `frame_by_frame`, which knows no orders and takes one
-- frame through all stages, then the next. The latter has no progress, so samples, lines and memories are compared
pub record FrameAfterFrame (setup : Setup) (s : State Float Held) (order : List ℕ) : Type 0 where
  pub taken : Taken setup s (frames (tops_of setup) (frames_of s.samples))
  pub same : leaves_of setup s order ≡ leaves_of setup s (frames (tops_of setup) (frames_of s.samples))
  pub renders : from 0 (leaves_of setup s order) ≡ frame_by_frame (chain_of setup) (frames_of s.samples) (from 0 s)

-- "an order that brings every stage from nothing to the last frame leaves what demand 2's rendering, whole frame after
-- whole frame, leaves"
abbrev pub WholeFrames : Type 0
WholeFrames = (setup : Setup) (s : State Float Held) (order : List ℕ) → Arrays s → Finishing setup s order
    → FrameAfterFrame setup s order

-- the second part of a cut block, with samples ys and progress p: it begins with the lines and memories that the order
-- leaves of the first part, s
abbrev pub second_part : Setup → State Float Held → List ℕ → List Float → List ℕ → State Float Held
second_part setup s order ys p = begin ys (leaves_of setup s order).held p

-- r, which a block leaves, is left by its two parts too: the first, s, and the second, with samples ys and progress p
pub record CutAt (setup : Setup) (r s : State Float Held) (ys : List Float) (p : List ℕ) : Type 0 where
  -- the parts are accepted with an empty order; so they are with every order whose entries may be run
  -- (`EntriesDecide`), and one that finishes them is among these (`RenderIsRun`)
  pub first_taken : Taken setup s []
  pub second_taken : (first : List ℕ) → Finishing setup s first → Taken setup (second_part setup s first ys p) []
  -- whatever orders finish them, the parts, one after the other, leave the output, lines and memories of r
  pub same : (first second : List ℕ) → Finishing setup s first → Finishing setup (second_part setup s first ys p) second
      → Cut r (leaves_of setup s first) (leaves_of setup (second_part setup s first ys p) second)

-- "cutting an accepted, unstarted block at any frame and running each part to its end leaves the output, lines and
-- memories that running it whole to its end leaves"; the cut is after n frames, and both parts start "at progress
-- zero". That the parts are accepted is concluded, not assumed
abbrev pub CutAnywhere : Type 0
CutAnywhere = (setup : Setup) (n : ℕ) (xs ys : List Float) (h : Held) (p p₁ p₂ whole : List ℕ) → length xs ≡ n * 2
    → Arrays (begin (xs ++ ys) h p) → length p₁ ≡ places → length p₂ ≡ places
    → AllAt setup 0 (begin xs h p₁) → AllAt setup 0 (begin ys h p₂)
    → Finishing setup (begin (xs ++ ys) h p) whole
    → CutAt setup (leaves_of setup (begin (xs ++ ys) h p) whole) (begin xs h p₁) ys p₂

-- the two parts are accepted, and `render` of one and then of the other leaves the output, lines and memories that
-- `render` of the whole leaves
pub record RenderCut (setup : Setup) (s s₁ s₂ : State Float Held) : Type 0 where
  pub first_taken : Taken setup s₁ []
  pub second_taken : Taken setup s₂ []
  pub same : Cut (rendered_of setup s) (rendered_of setup s₁) (rendered_of setup s₂)

-- the same demand with no order at all: `render` of an accepted, unstarted block, and of its parts from progress zero
abbrev pub RenderCutAnywhere : Type 0
RenderCutAnywhere = (setup : Setup) (n : ℕ) (xs ys : List Float) (h : Held) (p : List ℕ) → length xs ≡ n * 2
    → Arrays (begin (xs ++ ys) h p) → AllAt setup 0 (begin (xs ++ ys) h p) → Taken setup (begin (xs ++ ys) h p) []
    → RenderCut setup (begin (xs ++ ys) h p) (begin xs h (replicate places 0))
    (begin ys (rendered_of setup (begin xs h (replicate places 0))).held (replicate places 0))

-- `render` brings every top stage to the last frame, and leaves what `run` leaves with any accepted order that does so;
-- `order_to_end` is such an order
pub record Rendering (setup : Setup) (s : State Float Held) : Type 0 where
  pub some : Taken setup s (order_to_end setup s)
  pub same : leaves_of setup s (order_to_end setup s) ≡ rendered_of setup s
  pub done : AllAt setup (frames_of s.samples) (rendered_of setup s)
  pub any : (order : List ℕ) → Taken setup s order → AllAt setup (frames_of s.samples) (leaves_of setup s order)
      → leaves_of setup s order ≡ rendered_of setup s

-- `render`, for callers who do not care about orders, is `run` with an order to the end, from wherever an accepted
-- block stands
abbrev pub RenderIsRun : Type 0
RenderIsRun = (setup : Setup) (s : State Float Held) → Arrays s → Taken setup s [] → Rendering setup s
