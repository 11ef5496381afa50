-- Effects as kira has them: each with its settings and with what it alone holds, a delay with its own list of feedback
-- effects. There are no offsets and no depth here. Of a list place there is only what its effect has no use for
-- (`Spare`), which is carried along and never changes. Definitions only.
use Rattle.std.specs.Prelude.{List, ℕ, zero, suc, ℤ, Float}
use Rattle.frame.specs.declared.Frame.{Frame}
use Rattle.integrators.specs.declared.Integrators.{Integrators}
use Rattle.plain_effects.specs.declared.distortion.DistortionKind.{DistortionKind}
use Rattle.filters.specs.declared.filter.FilterMode.{FilterMode}
use Rattle.filters.specs.declared.eq_filter.EqFilterKind.{EqFilterKind}
use Rattle.theory_effects.specs.Line.{Line}

-- a comb: its line, and its `filter_store`
pub record Comb : Type 0 where
  pub line : Line Float
  pub filter_store : Float

-- one side of a reverb: its combs, and the lines of its all-passes
pub record Side : Type 0 where
  pub combs : List Comb
  pub passes : List (Line Float)

-- what a list place remembers besides: positions and floats that no effect of its kind has a use for
pub record Spare : Type 0 where
  pub positions : List ℕ
  pub floats : List Float

mutual
  -- an effect: its settings, in the order of `Stage`, and what it holds
  pub data Effect : Type 0 where
    volume_control : ℤ → Effect
    panning_control : Float → Effect
    distortion : DistortionKind → ℤ → Float → Effect
    filter : FilterMode → Float → Float → Float → Integrators → Effect
    eq_filter : EqFilterKind → Float → ℤ → Float → Integrators → Effect
    reverb : Float → Float → Float → Float → Side → Side → Effect
    delay : ℤ → Float → Line Frame → Effects → Effect

  -- effects one after another, each with what its list place remembers besides
  pub data Effects : Type 0 where
    none : Effects
    next : Effect → Spare → Effects → Effects

-- two lists of effects, one after the other
unfoldable pub appended : Effects → Effects → Effects
appended none others = others
appended (next effect spare effects) others = next effect spare (appended effects others)

-- how many effects there are in a list, not counting those inside a delay
unfoldable pub how_many : Effects → ℕ
how_many none = zero
how_many (next effect spare effects) = suc (how_many effects)
