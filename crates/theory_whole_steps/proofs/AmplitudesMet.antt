-- The decibels of effects whose stages have settings in their ranges, as specs/AmplitudesIn.antt states them. Assumes nothing.
use Rattle.std.proofs.Common.{◌≡◌, refl, ap, sym, ◌∙◌, subst, Bool, true, ◌&&◌, ℕ, suc, ◌+◌, ◌≤◌, ◌<◌, arith, T, leb, leb→le, ℤ, pos, negsuc, ◌≤ℤ◌, length, length-append, Float, le-ltb}
use Rattle.std.specs.Float.{binary32, binary64}
use mathlib.Core.Bool.{and-eq-true_iff}
use lib.Signed.{le_z}
use Rattle.float.specs.Literal.{literal}
use Rattle.float.specs.Finite.{finite_of}
use Rattle.decibels.specs.Amplitude.{amplitude_of}
use Rattle.decibels.proofs.AmplitudeRules.{amplitude_rule, eq_amplitude_rule}
use Rattle.plain_effects.specs.declared.distortion.DistortionKind.{DistortionKind}
use Rattle.filters.specs.declared.eq_filter.EqFilterKind.{EqFilterKind}
use Rattle.stage.specs.declared.kind.Stage.{Stage}
use Rattle.stage.specs.declared.kind.Stage.TheVariants.{VolumeControl, Distortion, EqFilter, Delay}
use Rattle.stage.specs.declared.setup.Setup.{Setup}
use Rattle.stage.specs.Range.{between_z, between, tangent_of, delay_range, in_range_of}
use Rattle.stage.specs.Setup.{stage_at}
use Rattle.theory_effects.specs.Effects.{Effect, volume_control, panning_control, distortion, filter, eq_filter, reverb, delay, Effects, none, next}
use Rattle.theory_effects.specs.Standing.{stages_in, stages_of}
use Rattle.theory_effects.proofs.Sized.{Stand, stand_parts}
use Rattle.theory_whole_steps.specs.Amplitudes.{AmplitudeKnown, AmplitudesIn, AllAmplitudes}

-- ---- a test that passes

passes : (t : Bool) → t ≡ true → T t
passes t e = subst T (sym e) tt

at_most : {a b : ℤ} → le_z a b ≡ true → a ≤ℤ b
at_most {a} {b} e = record { le = passes (le_z a b) e }

silence : (z : ℤ) → z ≤ℤ negsuc 59 → amplitude_of z ≡ literal binary32 0 1
unfolding amplitude_of
silence (pos k) h = absurd h.le
silence (negsuc k) h = rw (le-ltb k 59 (leb→le 59 k h.le))

amplitude_known : (z : ℤ) → z ≤ℤ pos 24 → AmplitudeKnown z
amplitude_known z h = record { silent = silence z; audible = λ l. amplitude_rule z l h }

-- ---- the decibels of a stage whose settings are in their ranges

volume_range : (volume : ℤ) → in_range_of (VolumeControl volume) ≡ true → le_z volume (pos 24) ≡ true
unfolding in_range_of
volume_range volume h = h

drive_range : (kind : DistortionKind) (drive : ℤ) (mix : Float) → in_range_of (Distortion kind drive mix) ≡ true → (le_z (negsuc 58) drive ≡ true) × (le_z drive (pos 24) ≡ true)
unfolding in_range_of
drive_range kind drive mix h = (and-eq-true_iff _ _).0 ((and-eq-true_iff (between_z (negsuc 58) (pos 24) drive) (finite_of mix)).0 h).0

gain_range : (kind : EqFilterKind) (g : Float) (gain : ℤ) (q : Float) → in_range_of (EqFilter kind g gain q) ≡ true → (le_z (negsuc 23) gain ≡ true) × (le_z gain (pos 24) ≡ true)
unfolding in_range_of
gain_range kind g gain q h = (and-eq-true_iff _ _).0 ((and-eq-true_iff (tangent_of g) (between_z (negsuc 23) (pos 24) gain)).0 ((and-eq-true_iff _ (between (literal binary64 0 1) (literal binary64 1000 1) q)).0 h).0).1

feedback_range : (frames : ℕ) (feedback : ℤ) (mix : Float) (owned : ℕ) → in_range_of (Delay frames feedback mix owned) ≡ true → le_z feedback (pos 24) ≡ true
unfolding in_range_of delay_range
feedback_range frames feedback mix owned h = ((and-eq-true_iff (leb 1 frames && leb frames 480000) (le_z feedback (pos 24))).0 ((and-eq-true_iff _ (finite_of mix)).0 h).0).1

-- ---- effects that stand in the list from place i on

module _ (setup : Setup) (used : ℕ) (settings : (i : ℕ) → i < used → in_range_of (stage_at setup i) ≡ true) where
  -- the settings of the stage at i
  ranged : (s : Stage) (i : ℕ) → stage_at setup i ≡ s → i < used → in_range_of s ≡ true
  ranged s i e h = ap in_range_of (sym e) ∙ settings i h

  mutual
    unfolding AmplitudesIn stages_in

    amplitudes_in : (effect : Effect) (i : ℕ) → Stand setup (stages_in effect) i → i + length (stages_in effect) ≤ used → AmplitudesIn effect
    amplitudes_in (volume_control volume) i h g = amplitude_known volume (at_most (volume_range volume (ranged _ i h.0 (omega arith))))
    amplitudes_in (panning_control panning) i h g = tt
    amplitudes_in (distortion kind drive mix) i h g =
        let r = drive_range kind drive mix (ranged _ i h.0 (omega arith)) in
        amplitude_rule drive (at_most r.0) (at_most r.1)
    amplitudes_in (filter mode tan resonance mix memory) i h g = tt
    amplitudes_in (eq_filter kind tan gain sharp memory) i h g =
        let r = gain_range kind tan gain sharp (ranged _ i h.0 (omega arith)) in
        eq_amplitude_rule gain (at_most r.0) (at_most r.1)
    amplitudes_in (reverb feedback damping width mix left right) i h g = tt
    amplitudes_in (delay feedback mix line effects) i h g =
        let at : i < used = omega arith in
        (amplitude_known feedback (at_most (feedback_range _ feedback mix _ (ranged _ i h.0 at))), amplitudes_of effects (i + 1) h.1 (omega arith))

    pub amplitudes_of : (effects : Effects) (i : ℕ) → Stand setup (stages_of effects) i → i + length (stages_of effects) ≤ used → AllAmplitudes effects
    amplitudes_of none i h g = tt
    amplitudes_of (next effect spare effects) i h g =
        let parts = stand_parts setup (stages_in effect) (stages_of effects) i h in
        let size = length-append (stages_in effect) (stages_of effects) in
        (amplitudes_in effect i parts.0 (omega arith), amplitudes_of effects (i + length (stages_in effect)) parts.1 (omega arith))
