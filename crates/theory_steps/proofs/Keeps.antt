-- What a step leaves of the store, of the positions and of the floats is as long as what it had, whatever that was. Assumes nothing.
use Rattle.std.proofs.Common.{refl, ◌&&◌, List, ℕ, zero, suc, ◌+◌, ◌*◌, ltb, leb, ℤ, Float, length-set}
use Rattle.integrators.specs.declared.Integrators.{Integrators}
use Rattle.line.specs.Held.{Held, holds, front, Ran}
use Rattle.line.proofs.Keeps.{Same, Keeps, same_refl, cond_keeps, joined_keeps, frame_in_keeps}
use Rattle.reverb.proofs.Keeps.{reverb_keeps}
use Rattle.memories.specs.Sizes.{places, place_positions, place_floats}
use Rattle.memories.specs.Kinds.{remember}
use Rattle.stage.specs.declared.kind.Stage.{Stage}
use Rattle.stage.specs.declared.kind.Stage.TheVariants.{VolumeControl, PanningControl, Distortion, Filter, EqFilter, Reverb, Delay}
use Rattle.stage.specs.declared.setup.Setup.{Setup}
use Rattle.stage.specs.Setup.{stage_at}
use Rattle.stage_step.specs.Step.{delay_stage, stage_step, in_turn, span_of, step_of, process_at}
use Rattle.stage_step.proofs.Levels.{step_is, span_zero, span_shallow, span_is, place_is}

-- ---- a stage

-- a filter or an EQ
remember_keeps : (memory : Integrators) (h : Held) → Same (holds h.store h.positions (remember memory h.floats)) h
unfolding remember
remember_keeps memory h = record { store = refl; positions = refl; floats = simp frame_in_keeps }

module _ (inner : Ran → Ran) (keeps : Keeps inner) where
  delay_keeps : (frames : ℕ) (feedback : ℤ) (mix : Float) → Keeps (delay_stage frames feedback mix inner)
  unfolding delay_stage front
  delay_keeps frames feedback mix r = joined_keeps (2 * frames) place_positions place_floats _ _ r.held record { store = frame_in_keeps _ _ _; positions = simp length-set; floats = refl } (keeps _)

  stage_keeps : (rate : ℕ) (s : Stage) → Keeps (stage_step rate inner s)
  unfolding stage_step
  stage_keeps rate (VolumeControl volume) r = same_refl r.held
  stage_keeps rate (PanningControl panning) r = same_refl r.held
  stage_keeps rate (Distortion kind drive mix) r = same_refl r.held
  stage_keeps rate (Filter mode g resonance mix) r = remember_keeps _ r.held
  stage_keeps rate (EqFilter kind g gain q) r = remember_keeps _ r.held
  stage_keeps rate (Reverb feedback damping width mix) r = reverb_keeps rate feedback damping width mix r
  stage_keeps rate (Delay frames feedback mix owned) r = delay_keeps frames feedback mix r

-- ---- stages in turn

turn_keeps : (lines m : ℕ) (f g : Ran → Ran) → Keeps f → Keeps g → Keeps (in_turn lines m f g)
unfolding in_turn
turn_keeps lines m f g p q r = joined_keeps lines (place_positions * m) (place_floats * m) _ _ r.held (p _) (q _)

module _ (setup : Setup) (starts : List ℕ) where
  span_keeps : (n depth i e : ℕ) → Keeps (span_of n depth setup starts i e)
  span_keeps zero depth i e r = rw span_zero (same_refl r.held)
  span_keeps (suc n) zero i e r = rw span_shallow (same_refl r.held)
  span_keeps (suc n) (suc depth) i e r =
      rw span_is
      (cond_keeps (ltb i e) _ _ r.held
      (turn_keeps _ _ _ _ (λ s. rw step_is (stage_keeps _ (span_keeps n depth (i + 1) _) setup.rate (stage_at setup i) s)) (span_keeps n (suc depth) _ e) r)
      (same_refl r.held))

  module _ (i e : ℕ) where
    pub step_keeps : (n depth : ℕ) → Keeps (step_of n depth setup starts i e)
    step_keeps n depth r = rw step_is (stage_keeps _ (span_keeps n depth (i + 1) e) setup.rate (stage_at setup i) r)

    pub place_keeps : Keeps (process_at setup starts i e)
    place_keeps r = rw place_is (cond_keeps (ltb i e && leb e places) _ _ r.held (step_keeps places 3 r) (same_refl r.held))
