-- Effects that stand in a list without a faulty stage have four levels at most: depths 0 to 3. Assumes nothing.
use Rattle.std.proofs.Common.{◌≡◌, ap, ◌++◌, ℕ, suc, ◌+◌, ◌-◌, ◌≤◌, ◌<◌, arith, add-one, length, length-append}
use Rattle.stage.specs.declared.kind.Stage.{Stage}
use Rattle.stage.specs.declared.setup.Setup.{Setup}
use Rattle.stage.specs.Holding.{holding_of, owned_of}
use Rattle.stage.specs.Setup.{used_of}
use Rattle.refusals.specs.Shape.{last_of, depth_of}
use Rattle.theory_refusals.specs.TopStages.{NoneFaulty}
use Rattle.theory_refusals.proofs.Shapes.{depth_owned, depth_more, not_deep}
use Rattle.theory_effects.specs.Effects.{Effect, volume_control, panning_control, distortion, filter, eq_filter, reverb, delay, Effects, none, next}
use Rattle.theory_effects.specs.Standing.{stages_in, stages_of}
use Rattle.theory_effects.proofs.Sized.{Stand, stand_parts}
use Rattle.theory_effects.proofs.Deep.{deep_in, deep}

module _ (setup : Setup) (sound : NoneFaulty setup) where
  -- d of the stages before place i own each of the m stages from i on
  abbrev Owners : ℕ → ℕ → ℕ → Type 0
  Owners d i m = (j : ℕ) → i ≤ j → j < i + m → d ≤ depth_of setup j i

  -- one owner more inside a stage
  inside : (d i m : ℕ) → Owners d i (suc m) → i + m ≤ last_of setup i → Owners (suc d) (i + 1) m
  inside d i m o h j g l = rw add-one (omega (arith, o j (omega arith) (omega arith), depth_owned setup j i (omega arith)))

  front_owners : (d i m n : ℕ) → Owners d i (m + n) → Owners d i m
  front_owners d i m n o j g l = o j g (omega arith)

  back_owners : (d i m n : ℕ) → Owners d i (m + n) → Owners d (i + m) n
  back_owners d i m n o j g l = omega (arith, o j (omega arith) (omega arith), depth_more setup j i (i + m) (omega arith))

  -- a stage that so many own
  one_level : (d i m : ℕ) → 1 ≤ m → i + m ≤ used_of setup → Owners d i m → 1 ≤ 4 - d
  one_level d i m s h o = omega (arith, o i (omega arith) (omega arith), not_deep setup sound i (omega arith))

  mutual
    unfolding stages_in deep_in holding_of

    deep_in_lem : (effect : Effect) (d i : ℕ) → Stand setup (stages_in effect) i → i + length (stages_in effect) ≤ used_of setup → Owners d i (length (stages_in effect)) → deep_in effect ≤ 4 - d
    deep_in_lem (volume_control volume) d i h g o = one_level d i 1 (omega arith) g o
    deep_in_lem (panning_control panning) d i h g o = one_level d i 1 (omega arith) g o
    deep_in_lem (distortion kind drive mix) d i h g o = one_level d i 1 (omega arith) g o
    deep_in_lem (filter mode tan resonance mix memory) d i h g o = one_level d i 1 (omega arith) g o
    deep_in_lem (eq_filter kind tan gain sharp memory) d i h g o = one_level d i 1 (omega arith) g o
    deep_in_lem (reverb feedback damping width mix left right) d i h g o = one_level d i 1 (omega arith) g o
    deep_in_lem (delay feedback mix line effects) d i h g o =
        let last : last_of setup i ≡ i + length (stages_of effects) = ap (λ (s : Stage). i + owned_of s) h.0 in
        omega (arith, one_level d i _ (omega arith) g o, deep_of effects (suc d) (i + 1) h.1 (omega arith) (inside d i _ o (omega arith)))

    deep_of : (effects : Effects) (d i : ℕ) → Stand setup (stages_of effects) i → i + length (stages_of effects) ≤ used_of setup → Owners d i (length (stages_of effects)) → deep effects ≤ 4 - d
    deep_of none d i h g o = omega arith
    deep_of (next effect spare effects) d i h g o =
        let parts = stand_parts setup (stages_in effect) (stages_of effects) i h in
        let m = length (stages_in effect) in
        let n = length (stages_of effects) in
        let size : length (stages_in effect ++ stages_of effects) ≡ m + n = length-append (stages_in effect) (stages_of effects) in
        let all : Owners d i (m + n) = rw size at o in
        omega (arith, deep_in_lem effect d i parts.0 (omega arith) (front_owners d i m n all), deep_of effects d (i + m) parts.1 (omega arith) (back_owners d i m n all))

  pub four_levels : (effect : Effect) (i : ℕ) → Stand setup (stages_in effect) i → i + length (stages_in effect) ≤ used_of setup → deep_in effect ≤ 4
  four_levels effect i h g = deep_in_lem effect 0 i h g (λ j a b. omega arith)
