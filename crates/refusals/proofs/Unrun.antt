-- The first sample of the frames that top stage 0 has not run: with no stage and with one. Assumes nothing.
use Rattle.std.proofs.Common.{◌≡◌, List, ℕ, ◌*◌, ◌≤◌, ◌<◌, arith, get_or, eq-eqb, ne_eqb}
use native.Mathlib.Decide.{ℕ_discrete}
use Rattle.refusals.specs.Refusals.{unrun_from}

module _ (tops : ℕ) (progress : List ℕ) where
  pub unrun_none : tops ≡ 0 → unrun_from tops progress ≡ 0
  unrun_none e = rw (eq-eqb tops 0 e)

  pub unrun_some : 0 < tops → unrun_from tops progress ≡ 2 * get_or progress 0 0
  unrun_some h = rw (ne_eqb tops 0 (λ e. omega arith))

  pub unrun_most : (n : ℕ) → (0 < tops → get_or progress 0 0 ≤ n) → unrun_from tops progress ≤ 2 * n
  unrun_most n h = go (ℕ_discrete tops 0)
    where
      go : Dec (tops ≡ 0) → unrun_from tops progress ≤ 2 * n
      go (yes e) = omega (arith, unrun_none e)
      go (no d) = omega (arith, unrun_some (omega arith), h (omega arith))
