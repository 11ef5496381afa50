-- The decibels of effects: each has an amplitude, as document 01 gives it, and none is past the end of the list of
-- amplitudes. Definitions only.
use Rattle.std.specs.Prelude.{◌≡◌, ℤ, negsuc, ◌≤ℤ◌}
use Rattle.std.specs.Float.{binary32, binary64}
use Rattle.float.specs.Literal.{literal}
use Rattle.decibels.specs.Amplitude.{amplitude_of, eq_amplitude_of}
use Rattle.decibels.specs.Power.{NearestPower}
use Rattle.theory_effects.specs.Effects.{Effect, volume_control, panning_control, distortion, filter, eq_filter, reverb}
use Rattle.theory_effects.specs.Effects.{delay, Effects, none, next}

-- a volume or a feedback: "at or below -60 dB is 0; for k from -59 to 24 the f32 nearest to 10^(k/20)". Above 24 there
-- is none: `amplitude_of` is NaN there, which is nearest to nothing
pub record AmplitudeKnown (z : ℤ) : Type 0 where
  pub silent : z ≤ℤ negsuc 59 → amplitude_of z ≡ literal binary32 0 1
  pub audible : negsuc 58 ≤ℤ z → NearestPower binary32 20 z (amplitude_of z)

unfoldable mutual
  -- the decibels of an effect: a drive is never silent, and an EQ's gain is "the f64 nearest to 10^(k/40)"
  pub AmplitudesIn : Effect → Type 0
  AmplitudesIn (volume_control volume) = AmplitudeKnown volume
  AmplitudesIn (panning_control panning) = Unit {0}
  AmplitudesIn (distortion kind drive mix) = NearestPower binary32 20 drive (amplitude_of drive)
  AmplitudesIn (filter mode g resonance mix memory) = Unit {0}
  AmplitudesIn (eq_filter kind g gain q memory) = NearestPower binary64 40 gain (eq_amplitude_of gain)
  AmplitudesIn (reverb feedback damping width mix left right) = Unit {0}
  AmplitudesIn (delay feedback mix line effects) = AmplitudeKnown feedback × AllAmplitudes effects

  -- the decibels of effects one after another
  pub AllAmplitudes : Effects → Type 0
  AllAmplitudes none = Unit {0}
  AllAmplitudes (next effect spare effects) = AmplitudesIn effect × AllAmplitudes effects
