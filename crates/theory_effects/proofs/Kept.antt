-- A frame through effects changes no setting and no length: they stand in the list as before, and are as whole as before. Assumes nothing.
use Rattle.std.proofs.Common.{◌≡◌, refl, ℕ}
use Rattle.frame.specs.declared.Frame.{Frame}
use Rattle.theory_effects.specs.Effects.{Spare, Effect, volume_control, panning_control, distortion, filter, eq_filter, reverb, delay, Effects, none, next}
use Rattle.theory_effects.specs.Process.{process, process_all}
use Rattle.theory_effects.specs.Standing.{stages_in, stages_of, Full, AllFull}
use Rattle.theory_effects.proofs.Lines.{length_stored}
use Rattle.theory_effects.proofs.Reverbs.{reverb_full}

mutual
  unfolding stages_in process

  pub stages_kept : (effect : Effect) (x : Frame) → stages_in (process effect x).1 ≡ stages_in effect
  stages_kept (volume_control volume) x = refl
  stages_kept (panning_control panning) x = refl
  stages_kept (distortion kind drive mix) x = refl
  stages_kept (filter mode g resonance mix memory) x = refl
  stages_kept (eq_filter kind g gain q memory) x = refl
  stages_kept (reverb feedback damping width mix left right) x = refl
  stages_kept (delay feedback mix line effects) x = rw (length_stored, all_stages_kept effects line.here)

  pub all_stages_kept : (effects : Effects) (x : Frame) → stages_of (process_all effects x).1 ≡ stages_of effects
  all_stages_kept none x = refl
  all_stages_kept (next effect spare effects) x = rw (stages_kept effect x, all_stages_kept effects (process effect x).0)

module _ (rate : ℕ) where
  mutual
    unfolding Full process

    pub full_kept : (effect : Effect) (spare : Spare) (x : Frame) → Full rate effect spare → Full rate (process effect x).1 spare
    full_kept (volume_control volume) spare x f = f
    full_kept (panning_control panning) spare x f = f
    full_kept (distortion kind drive mix) spare x f = f
    full_kept (filter mode g resonance mix memory) spare x f = f
    full_kept (eq_filter kind g gain q memory) spare x f = f
    full_kept (reverb feedback damping width mix left right) spare x f = reverb_full rate feedback damping width mix left right spare f x
    full_kept (delay feedback mix line effects) spare x f = (f.0, all_full_kept effects line.here f.1)

    pub all_full_kept : (effects : Effects) (x : Frame) → AllFull rate effects → AllFull rate (process_all effects x).1
    all_full_kept none x f = tt
    all_full_kept (next effect spare effects) x f = (full_kept effect spare x f.0, all_full_kept effects (process effect x).0 f.1)
