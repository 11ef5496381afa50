-- Laws of where lines start, and of the table of starts. Assumes nothing.
use Rattle.std.proofs.Common.{◌≡◌, refl, ap, sym, ◌∙◌, List, ℕ, zero, suc, ◌+◌, ◌≤◌, ◌<◌, arith, add-one, get_or}
use native.Mathlib.Decide.{dec_lt}
use Rattle.memories.specs.Sizes.{places}
use Rattle.stage.specs.declared.setup.Setup.{Setup}
use Rattle.stage.specs.Setup.{stage_at}
use Rattle.stage.specs.Listed.{list_of}
use Rattle.line_layout.specs.Lines.{floats_of}
use Rattle.line_layout.specs.Layout.{start_of, starts_of}
use Rattle.stage.proofs.Listed.{listed_at}

module _ (setup : Setup) where
  pub start_more : (i : ℕ) → start_of setup (i + 1) ≡ start_of setup i + floats_of setup.rate (stage_at setup i)
  unfolding start_of
  start_more i = ap (start_of setup) (add-one i)

  -- a later line starts later
  pub start_le : (i e : ℕ) → i ≤ e → start_of setup i ≤ start_of setup e
  unfolding start_of
  start_le i zero h = let e : i ≡ 0 = omega arith in omega (arith, ap (start_of setup) e)
  start_le i (suc e) h = go (dec_lt i (suc e)) (start_le i e)
    where
      go : Dec (i < suc e) → (i ≤ e → start_of setup i ≤ start_of setup e) → start_of setup i ≤ start_of setup e + floats_of setup.rate (stage_at setup e)
      go (yes k) r = omega (arith, r (omega arith))
      go (no k) r = let e : i ≡ suc e = omega arith in omega (arith, ap (start_of setup) e)

  -- ---- the table
  pub starts_are : list_of (start_of setup) (places + 1) ≡ starts_of setup
  unfolding starts_of
  starts_are = refl

  pub starts_at : {starts : List ℕ} → starts ≡ starts_of setup → (i : ℕ) → i ≤ places → get_or starts i 0 ≡ start_of setup i
  starts_at e i h = ap (λ (xs : List ℕ). get_or xs i 0) (e ∙ sym starts_are) ∙ listed_at (start_of setup) 0 (places + 1) i (omega arith)
