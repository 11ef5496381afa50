-- How deep effects stand inside one another: an effect alone is one level, a delay one more than its feedback effects.
-- Assumes nothing.
use Rattle.std.proofs.Common.{ℕ, zero, suc, max, ◌≤◌, arith}
use Rattle.theory_effects.specs.Effects.{Effect, volume_control, panning_control, distortion, filter, eq_filter, reverb, delay}
use Rattle.theory_effects.specs.Effects.{Effects, none, next}

unfoldable mutual
  -- the levels of one effect
  pub deep_in : Effect → ℕ
  deep_in (volume_control volume) = 1
  deep_in (panning_control panning) = 1
  deep_in (distortion kind drive mix) = 1
  deep_in (filter mode g resonance mix memory) = 1
  deep_in (eq_filter kind g gain q memory) = 1
  deep_in (reverb feedback damping width mix left right) = 1
  deep_in (delay feedback mix line effects) = suc (deep effects)

  -- the levels of effects one after another
  pub deep : Effects → ℕ
  deep none = zero
  deep (next effect spare effects) = max (deep_in effect) (deep effects)

pub some_level : (effect : Effect) → 1 ≤ deep_in effect
unfolding deep_in
some_level (volume_control volume) = omega arith
some_level (panning_control panning) = omega arith
some_level (distortion kind drive mix) = omega arith
some_level (filter mode g resonance mix memory) = omega arith
some_level (eq_filter kind g gain q memory) = omega arith
some_level (reverb feedback damping width mix left right) = omega arith
some_level (delay feedback mix line effects) = omega arith
