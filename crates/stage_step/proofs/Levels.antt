-- The definitions, one level at a time. To unfold `span_of` opens all that it stands on; to rewrite by these opens one level and leaves the others shut. Assumes nothing.
use Rattle.std.proofs.Common.{◌≡◌, refl, cond, ◌&&◌, List, ℕ, zero, suc, ◌+◌, ◌-◌, ltb, leb}
use Rattle.line.specs.Held.{Ran}
use Rattle.memories.specs.Sizes.{places}
use Rattle.stage.specs.declared.setup.Setup.{Setup}
use Rattle.stage.specs.Setup.{stage_at, next_place}
use Rattle.line_layout.specs.Layout.{size_of}
use Rattle.stage_step.specs.Step.{stage_step, in_turn, span_of, step_of, process_at}

module _ (setup : Setup) (starts : List ℕ) (i e : ℕ) (r : Ran) where
  pub step_is : (n depth : ℕ) → step_of n depth setup starts i e r ≡ stage_step setup.rate (span_of n depth setup starts (i + 1) e) (stage_at setup i) r
  unfolding step_of
  step_is n depth = refl

  pub span_zero : (depth : ℕ) → span_of zero depth setup starts i e r ≡ r
  unfolding span_of
  span_zero depth = refl

  pub span_shallow : (n : ℕ) → span_of (suc n) zero setup starts i e r ≡ r
  unfolding span_of
  span_shallow n = refl

  -- the stage at i on the front, and those from the next on, on the rest
  pub span_is : (n depth : ℕ) → span_of (suc n) (suc depth) setup starts i e r
      ≡ cond (ltb i e)
      (in_turn (size_of starts i (next_place (stage_at setup i) i e)) (next_place (stage_at setup i) i e - i)
      (step_of n depth setup starts i (next_place (stage_at setup i) i e))
      (span_of n (suc depth) setup starts (next_place (stage_at setup i) i e) e)
      r)
      r
  unfolding span_of step_of
  span_is n depth = refl

  pub place_is : process_at setup starts i e r ≡ cond (ltb i e && leb e places) (step_of places 3 setup starts i e r) r
  unfolding process_at
  place_is = refl
