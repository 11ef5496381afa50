-- The kinds that a `match` does not name: but for a reverb and a delay none holds anything. Assumes nothing.
use Rattle.std.proofs.Common.{◌≡◌, ℕ, refl, ℤ, Float}
use Rattle.stage.specs.declared.kind.Stage.{Stage}
use Rattle.stage.specs.declared.kind.Stage.TheVariants.{VolumeControl, PanningControl, Distortion, Filter, EqFilter, Reverb, Delay}
use Rattle.stage.specs.declared.kind.Lines.TheVariants.{NoLines}
use Rattle.stage.specs.Holding.{holding, holding_of}

pub holds_none : (s : Stage)
    → ((feedback damping width mix : Float) → s ≡ Reverb feedback damping width mix → ⊥)
    → ((frames : ℕ) (feedback : ℤ) (mix : Float) (owned : ℕ) → s ≡ Delay frames feedback mix owned → ⊥)
    → holding 0 NoLines ≡ holding_of s
unfolding holding_of
holds_none (VolumeControl volume) r d = refl
holds_none (PanningControl panning) r d = refl
holds_none (Distortion kind drive mix) r d = refl
holds_none (Filter mode g resonance mix) r d = refl
holds_none (EqFilter kind g gain q) r d = refl
holds_none (Reverb feedback damping width mix) r d = absurd (r feedback damping width mix refl)
holds_none (Delay frames feedback mix owned) r d = absurd (d frames feedback mix owned refl)
