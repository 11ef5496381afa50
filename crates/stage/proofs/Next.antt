-- Laws of the place after a stage and the stages that it owns: never past the end, and always further on. Assumes nothing.
use Rattle.std.proofs.Common.{◌≡◌, ap, Bool, cond, ℕ, ◌+◌, ◌-◌, ◌≤◌, ◌<◌, arith, lt-ltb, le-ltb}
use native.Mathlib.Decide.{dec_lt}
use Rattle.stage.specs.declared.kind.Stage.{Stage}
use Rattle.stage.specs.Holding.{owned_of}
use Rattle.stage.specs.Setup.{next_place}

module _ (s : Stage) (i end : ℕ) where
  -- what it owns stays inside
  pub next_inside : owned_of s < end - i → next_place s i end ≡ i + 1 + owned_of s
  unfolding next_place
  next_inside h = ap (λ (b : Bool). cond b (i + 1 + owned_of s) end) (lt-ltb (owned_of s) (end - i) h)

  -- or does not
  pub next_outside : end - i ≤ owned_of s → next_place s i end ≡ end
  unfolding next_place
  next_outside h = ap (λ (b : Bool). cond b (i + 1 + owned_of s) end) (le-ltb (owned_of s) (end - i) h)

  pub next_le : next_place s i end ≤ end
  next_le = go (dec_lt (owned_of s) (end - i))
    where
      go : Dec (owned_of s < end - i) → next_place s i end ≤ end
      go (yes h) = omega (arith, next_inside h)
      go (no h) = omega (arith, next_outside (omega arith))

  pub next_more : i < end → i < next_place s i end
  next_more g = go (dec_lt (owned_of s) (end - i))
    where
      go : Dec (owned_of s < end - i) → i < next_place s i end
      go (yes h) = omega (arith, next_inside h)
      go (no h) = omega (arith, next_outside (omega arith))
