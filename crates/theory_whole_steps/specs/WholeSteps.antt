-- What an accepted step does: it takes one frame through one effect, as kira does (crate theory_effects). The
-- definition of a step also says what happens where lines are too short, the list ends too early or stages are too
-- deep; an accepted step never gets there. Definitions only.
use Rattle.std.specs.Prelude.{◌≡◌, List, [], ◌∷◌, map, ℕ, ◌*◌, Float, length, take}
use Rattle.frame.specs.declared.Frame.{Frame}
use Rattle.line.specs.Held.{Held, joined}
use Rattle.theory_order.specs.Stretch.{part}
use Rattle.theory_order.specs.Chain.{State, at}
use Rattle.memories.specs.Sizes.{places}
use Rattle.stage.specs.declared.kind.Stage.{Stage}
use Rattle.stage.specs.declared.setup.Slot.{Slot}
use Rattle.stage.specs.declared.setup.Setup.{Setup}
use Rattle.line_layout.specs.Layout.{needed_of}
use Rattle.chain.specs.Run.{leaves_of}
use Rattle.chain.specs.Demands.{Arrays, Taken, next_frame}
use Rattle.theory_effects.specs.Effects.{Effect, Effects, Spare, next, appended, how_many}
use Rattle.theory_effects.specs.Process.{process}
use Rattle.theory_effects.specs.Standing.{stages_of, held_of, AllFull}
use Rattle.theory_whole_steps.specs.Amplitudes.{AllAmplitudes}

-- the list has as many places as the type of its array says
abbrev pub AllPlaces : Setup → Type 0
AllPlaces setup = length setup.slots ≡ places

-- the stages of the list, as many as its count says
abbrev pub stage_list : Setup → List Stage
stage_list setup = map (λ (slot : Slot). slot.stage) (take setup.count setup.slots)

-- the two samples of a frame
abbrev pub two_samples : Frame → List Float
two_samples x = x.left ∷ (x.right ∷ [])

-- these effects are those of the list, each complete, and what they hold is at the front of what is held; `past` are
-- the floats past the last line, and what list places past the last stage remember. "Needed floats are the sum of all
-- lines"
pub record StandFor (setup : Setup) (h : Held) (effects : Effects) (past : Held) : Type 0 where
  pub stages : stages_of effects ≡ stage_list setup
  pub full : AllFull setup.rate effects
  pub held : h ≡ joined (held_of effects) past
  pub needed : needed_of setup ≡ length (held_of effects).store

-- z is s after a step of top stage k: one frame through its effect, as kira processes it. What the step does to other
-- samples and to the progress is said by `OneStep` of crate chain
pub record WholeStep (setup : Setup) (k : ℕ) (s z : State Float Held) (effects : Effects) (past : Held) : Type 0 where
  -- the effect that is run: k effects come before it, not counting those inside others
  pub before : Effects
  pub effect : Effect
  pub spare : Spare
  pub after : Effects
  pub parts : effects ≡ appended before (next effect spare after)
  pub number : how_many before ≡ k
  -- the frame that it is given is its next one
  pub input : Frame
  pub given : next_frame setup k s ≡ two_samples input
  -- in its place is what the effect makes of it, and the effects held then are the same, but for what this one has
  -- become
  pub output : part (at s k * 2) 2 z.samples ≡ two_samples (process effect input).0
  pub held : StandFor setup z.held (appended before (next (process effect input).1 spare after)) past

-- "what meets none of document 01's eleven refusals is rendered": the list of every accepted call, with what it holds,
-- is one of effects, each with all of its lines and all of the effects inside it
abbrev pub EffectsStand : Type 0
EffectsStand = (setup : Setup) (s : State Float Held) (order : List ℕ) → AllPlaces setup → Arrays s
    → Taken setup s order → (effects : Effects) × (past : Held) × StandFor setup s.held effects past

-- "each accepted step gives the Rust's bits": it is a frame through one of these effects, and leaves the others
abbrev pub StepsWhole : Type 0
StepsWhole = (setup : Setup) (s : State Float Held) (k : ℕ) (effects : Effects) (past : Held) → AllPlaces setup
    → Arrays s → Taken setup s (k ∷ []) → StandFor setup s.held effects past
    → WholeStep setup k s (leaves_of setup s (k ∷ [])) effects past

-- and every amplitude that it takes is one of document 01's: no setting in decibels is past the end of the lists
abbrev pub AmplitudesKnown : Type 0
AmplitudesKnown = (setup : Setup) (s : State Float Held) (order : List ℕ) (effects : Effects) (past : Held)
    → AllPlaces setup → Taken setup s order → StandFor setup s.held effects past → AllAmplitudes effects
