-- "Top stages have depth 0". Where the top stages stand is found from the front of the list, by stepping over what each
-- of them owns; a stage's depth is counted, over all stages before it. In a list without a faulty stage the two agree.
-- Definitions only.
use Rattle.std.specs.Prelude.{◌≡◌, ◌↔◌, ℕ, suc, ◌<◌}
use Rattle.theory_tables.specs.Condition.{Holds}
use Rattle.theory_tables.specs.Rows.{first, Never}
use Rattle.stage.specs.declared.setup.Setup.{Setup}
use Rattle.stage.specs.Setup.{used_of}
use Rattle.top_stages.specs.Tops.{top_at, tops_of}
use Rattle.refusals.specs.Shape.{owns, depth_of, faulty}

-- no stage is faulty: refusal 3 does not apply
abbrev pub NoneFaulty : Setup → Type 0
NoneFaulty setup = Never (first (used_of setup) (faulty setup))

-- a top stage stands at place i
abbrev pub TopStands : Setup → ℕ → Type 0
TopStands setup i = (k : ℕ) × (k < tops_of setup) × (top_at setup k ≡ i)

-- how the top stages share the list among them
pub record Shared (setup : Setup) : Type 0 where
  -- a top stage stands at a used place exactly where the depth is 0
  pub shallow : (i : ℕ) → i < used_of setup → TopStands setup i ↔ (depth_of setup i i ≡ 0)
  -- the first top stage stands at the front; after the last one comes the list's end
  pub front : top_at setup 0 ≡ 0
  pub end : top_at setup (tops_of setup) ≡ used_of setup
  -- each stands before the next one, so no two stand at one place
  pub rise : (k : ℕ) → k < tops_of setup → top_at setup k < top_at setup (suc k)
  -- of the stages after it, each owns exactly those before the next one
  pub own : (k i : ℕ) → k < tops_of setup → top_at setup k < i
      → Holds (owns setup (top_at setup k) i) ↔ (i < top_at setup (suc k))

-- in every list without a faulty stage the top stages share it so
abbrev pub TopStagesHaveDepth0 : Type 0
TopStagesHaveDepth0 = (setup : Setup) → NoneFaulty setup → Shared setup
