-- How effects stand in a list of stages, and in the three stretches that stages hold: each as one list, the effects'
-- own parts one after another. Definitions only.
use Rattle.std.specs.Prelude.{◌≡◌, List, [], ◌∷◌, ◌++◌, map, ℕ, ◌+◌, ◌*◌, ◌/◌, length, Float}
use Rattle.frame.specs.declared.Frame.{Frame}
use Rattle.integrators.specs.declared.Integrators.{Integrators}
use Rattle.line.specs.Held.{Held, holds, joined}
use Rattle.memories.specs.Sizes.{place_positions, place_floats}
use Rattle.stage.specs.declared.kind.Stage.{Stage}
use Rattle.stage.specs.declared.kind.Stage.TheVariants.{VolumeControl, PanningControl, Distortion, Filter, EqFilter}
use Rattle.stage.specs.declared.kind.Stage.TheVariants.{Reverb, Delay}
use Rattle.theory_effects.specs.Line.{Line, buffer, position}
use Rattle.theory_effects.specs.Effects.{Comb, Side, Spare}
use Rattle.theory_effects.specs.Effects.{Effect, volume_control, panning_control, distortion, filter, eq_filter}
use Rattle.theory_effects.specs.Effects.{reverb, delay, Effects, none, next}

-- ---- the list of stages

unfoldable mutual
  -- the stage of an effect; after a delay's, the stages of its feedback effects, which are those that it owns
  pub stages_in : Effect → List Stage
  stages_in (volume_control volume) = VolumeControl volume ∷ []
  stages_in (panning_control panning) = PanningControl panning ∷ []
  stages_in (distortion kind drive mix) = Distortion kind drive mix ∷ []
  stages_in (filter mode g resonance mix memory) = Filter mode g resonance mix ∷ []
  stages_in (eq_filter kind g gain q memory) = EqFilter kind g gain q ∷ []
  stages_in (reverb feedback damping width mix left right) = Reverb feedback damping width mix ∷ []
  stages_in (delay feedback mix line effects) =
      Delay (length (buffer line)) feedback mix (length (stages_of effects)) ∷ stages_of effects

  -- the stages of effects one after another
  pub stages_of : Effects → List Stage
  stages_of none = []
  stages_of (next effect spare effects) = stages_in effect ++ stages_of effects

-- ---- what they hold

-- frames as floats, left and right side by side
unfoldable pub side_by_side : List Frame → List Float
side_by_side [] = []
side_by_side (x ∷ frames) = x.left ∷ (x.right ∷ side_by_side frames)

-- these lines one after another, with their positions
unfoldable pub lines_held : List (Line Float) → Held
unfolding joined
lines_held [] = holds [] [] []
lines_held (l ∷ lines) = joined (holds (buffer l) (position l ∷ []) []) (lines_held lines)

-- the lines of these combs one after another, with their positions and each comb's `filter_store`
unfoldable pub combs_held : List Comb → Held
unfolding joined
combs_held [] = holds [] [] []
combs_held (c ∷ combs) =
    joined (holds (buffer c.line) (position c.line ∷ []) (c.filter_store ∷ [])) (combs_held combs)

-- what one side of a reverb holds: the combs' lines come before the all-passes'
unfoldable pub side_held : Side → Held
unfolding combs_held lines_held joined
side_held side = joined (combs_held side.combs) (lines_held side.passes)

-- what a list place remembers besides
abbrev pub spare_held : Spare → Held
spare_held spare = holds [] spare.positions spare.floats

-- the two frames that a filter or an EQ remembers
unfoldable pub memory_held : Integrators → Held
unfolding side_by_side
memory_held memory = holds [] [] (side_by_side (memory.ic1eq ∷ (memory.ic2eq ∷ [])))

unfoldable mutual
  unfolding joined side_held memory_held side_by_side

  -- what an effect holds, with what its list place remembers besides; what a delay's feedback effects hold comes last
  pub held_in : Effect → Spare → Held
  held_in (volume_control volume) spare = spare_held spare
  held_in (panning_control panning) spare = spare_held spare
  held_in (distortion kind drive mix) spare = spare_held spare
  held_in (filter mode g resonance mix memory) spare = joined (spare_held spare) (memory_held memory)
  held_in (eq_filter kind g gain q memory) spare = joined (spare_held spare) (memory_held memory)
  held_in (reverb feedback damping width mix left right) spare =
      joined (side_held left) (joined (side_held right) (spare_held spare))
  held_in (delay feedback mix line effects) spare =
      joined (joined (holds (side_by_side (buffer line)) (position line ∷ []) []) (spare_held spare)) (held_of effects)

  -- what effects one after another hold
  pub held_of : Effects → Held
  held_of none = holds [] [] []
  held_of (next effect spare effects) = joined (held_in effect spare) (held_of effects)

-- ---- their sizes

-- `reverb.rs`: the lengths of a side's eight combs, at 44,100 Hz
abbrev pub comb_lengths : List ℕ
comb_lengths = 1116 ∷ 1188 ∷ 1277 ∷ 1356 ∷ 1422 ∷ 1491 ∷ 1557 ∷ 1617 ∷ []

-- and of its four all-passes
abbrev pub pass_lengths : List ℕ
pass_lengths = 556 ∷ 441 ∷ 341 ∷ 225 ∷ []

-- "at rate R a line of n has floor(n * R / 44100) floats", "right side 23 more each": here `more` is 0 on the left and
-- 23 on the right
abbrev pub at_rate : ℕ → ℕ → List ℕ → List ℕ
at_rate rate more lengths = map (λ n. (n + more) * rate / 44100) lengths

-- one side of a reverb has all of its combs and all-passes, with lines of their full lengths
pub record FullSide (rate more : ℕ) (side : Side) : Type 0 where
  pub combs : map (λ (c : Comb). length (buffer c.line)) side.combs ≡ at_rate rate more comb_lengths
  pub passes : map (λ (l : Line Float). length (buffer l)) side.passes ≡ at_rate rate more pass_lengths

-- the effect uses so many positions and floats, and with the spare ones that makes as many as every place has
pub record FullPlace (positions floats : ℕ) (spare : Spare) : Type 0 where
  pub positions_are : positions + length spare.positions ≡ place_positions
  pub floats_are : floats + length spare.floats ≡ place_floats

unfoldable mutual
  -- an effect is complete at this rate: a reverb has all of its lines, and a delay's feedback effects are complete too.
  -- Its place remembers one position a line, one float a comb, and two frames for a filter or an EQ
  pub Full : ℕ → Effect → Spare → Type 0
  Full rate (volume_control volume) spare = FullPlace 0 0 spare
  Full rate (panning_control panning) spare = FullPlace 0 0 spare
  Full rate (distortion kind drive mix) spare = FullPlace 0 0 spare
  Full rate (filter mode g resonance mix memory) spare = FullPlace 0 4 spare
  Full rate (eq_filter kind g gain q memory) spare = FullPlace 0 4 spare
  Full rate (reverb feedback damping width mix left right) spare =
      FullSide rate 0 left × FullSide rate 23 right × FullPlace 24 16 spare
  Full rate (delay feedback mix line effects) spare = FullPlace 1 0 spare × AllFull rate effects

  -- effects one after another are complete, each with what its list place remembers besides
  pub AllFull : ℕ → Effects → Type 0
  AllFull rate none = Unit {0}
  AllFull rate (next effect spare effects) = Full rate effect spare × AllFull rate effects
