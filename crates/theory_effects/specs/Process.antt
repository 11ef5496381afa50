-- What an effect makes of one frame, as kira's `process` does: the frame that comes out, and the effect after it.
-- Definitions only.
use Rattle.std.specs.Prelude.{List, [], ◌∷◌, Float}
use Rattle.std.specs.Float.{binary32}
use Rattle.std.specs.Float.Ieee.{add, sub, mul, div, neg}
use Rattle.float.specs.Literal.{literal}
use Rattle.decibels.specs.Amplitude.{amplitude_of}
use Rattle.frame.specs.declared.Frame.{Frame}
use Rattle.frame.specs.Operations.{add_of, mul_of}
use Rattle.frame.specs.Mix.{mix_of}
use Rattle.plain_effects.specs.VolumeControl.{volume_of}
use Rattle.plain_effects.specs.PanningControl.{panning_of}
use Rattle.plain_effects.specs.Distortion.{distortion_of}
use Rattle.filters.specs.Filter.{filter_of}
use Rattle.filters.specs.EqFilter.{eq_of}
use Rattle.theory_effects.specs.Line.{Line, stored}
use Rattle.theory_effects.specs.Effects.{Comb, Side}
use Rattle.theory_effects.specs.Effects.{Effect, volume_control, panning_control, distortion, filter, eq_filter}
use Rattle.theory_effects.specs.Effects.{reverb, delay, Effects, none, next}

-- each of a list in turn: what one gives is handed to the next
unfoldable pub each_in_turn : {A : Type 0} → (Float → A → Float × A) → Float → List A → Float × List A
each_in_turn f x [] = (x, [])
each_in_turn f x (a ∷ rest) =
    let p = f x a in
    let q = each_in_turn f p.0 rest in
    (q.0, p.1 ∷ q.1)

-- `comb.rs`: what stands at the position is the output, which is added to the sum. The new `filter_store` is
-- `output * (1.0 - damp) + filter_store * damp`, and in the output's place goes `input + filter_store * feedback`
unfoldable pub comb_step : Float → Float → Float → Float → Comb → Float × Comb
comb_step feedback damp input sum comb =
    let output = comb.line.here in
    let fresh = mul binary32 output (sub binary32 (literal binary32 1 1) damp) in
    let store = add binary32 fresh (mul binary32 comb.filter_store damp) in (
      add binary32 sum output,
      record { line = stored (add binary32 input (mul binary32 store feedback)) comb.line; filter_store = store },
    )

-- `all_pass.rs`: `-input + buffer_output`, where `buffer_output` is what stands at the position; in its place goes
-- `input + buffer_output * FEEDBACK`, where FEEDBACK is 0.5
unfoldable pub pass_step : Float → Line Float → Float × Line Float
pass_step input line = (
  add binary32 (neg input) line.here,
  stored (add binary32 input (mul binary32 line.here (literal binary32 1 2))) line,
)

-- one side of a reverb: "eight combs a side summed from 0; four all-passes a side in series"
unfoldable pub side_step : Float → Float → Float → Side → Float × Side
unfolding each_in_turn comb_step pass_step
side_step feedback damping input side =
    let summed = each_in_turn (comb_step feedback damping input) (literal binary32 0 1) side.combs in
    let passed = each_in_turn pass_step summed.0 side.passes in
    (passed.0, record { combs = summed.1; passes = passed.1 })

-- `reverb.rs`: `output_left * wet_1 + output_right * wet_2` on the left and the other way round on the right, with
-- `wet_1 = stereo_width / 2.0 + 0.5` and `wet_2 = (1.0 - stereo_width) / 2.0`
unfoldable pub widened : Float → Float → Float → Frame
widened left right width =
    let wet1 = add binary32 (div binary32 width (literal binary32 2 1)) (literal binary32 1 2) in
    let wet2 = div binary32 (sub binary32 (literal binary32 1 1) width) (literal binary32 2 1) in
    record {
      left = add binary32 (mul binary32 left wet1) (mul binary32 right wet2);
      right = add binary32 (mul binary32 right wet1) (mul binary32 left wet2);
    }

unfoldable mutual
  unfolding side_step widened

  -- one frame through an effect. A delay: "take the oldest frame, run it through the feedback stages, multiply by the
  -- feedback amplitude: this is the wet frame. Store input plus wet. Mix wet with input"
  pub process : Effect → Frame → Frame × Effect
  process (volume_control volume) x = (volume_of volume x, volume_control volume)
  process (panning_control panning) x = (panning_of panning x, panning_control panning)
  process (distortion kind drive mix) x = (distortion_of kind drive mix x, distortion kind drive mix)
  process (filter mode g resonance mix memory) x =
      let done = filter_of mode g resonance mix memory x in
      (done.output, filter mode g resonance mix done.after)
  process (eq_filter kind g gain q memory) x =
      let done = eq_of kind g q gain memory x in
      (done.output, eq_filter kind g gain q done.after)
  process (reverb feedback damping width mix left right) x =
      let input = mul binary32 (add binary32 x.left x.right) (literal binary32 15 1000) in
      let l = side_step feedback damping input left in
      let r = side_step feedback damping input right in
      (mix_of (widened l.0 r.0 width) x mix, reverb feedback damping width mix l.1 r.1)
  process (delay feedback mix line effects) x =
      let fed = process_all effects line.here in
      let wet = mul_of fed.0 (amplitude_of feedback) in
      (mix_of wet x mix, delay feedback mix (stored (add_of x wet) line) fed.1)

  -- one frame through effects one after another, each once and in their order
  pub process_all : Effects → Frame → Frame × Effects
  process_all none x = (x, none)
  process_all (next effect spare effects) x =
      let p = process effect x in
      let q = process_all effects p.0 in
      (q.0, next p.1 spare q.1)
