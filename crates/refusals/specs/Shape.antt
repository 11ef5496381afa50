-- Refusal 3: "wrong shape, or depth above 3". "A delay owns the stages after it, as many as it says, nested ones
-- counted", and one "that owns stages beyond the list's end or its owner's end has a wrong shape". Definitions only.
use Rattle.std.specs.Prelude.{cond, ℕ, zero, suc, ◌+◌}
use Rattle.theory_tables.specs.Condition.{Condition, less, at_most, both, among, ◌or◌, decide}
use Rattle.stage.specs.declared.setup.Setup.{Setup}
use Rattle.stage.specs.Holding.{owned_of}
use Rattle.stage.specs.Setup.{stage_at, used_of}

-- the place of the last stage that the one at i owns; i itself where it owns none
abbrev pub last_of : Setup → ℕ → ℕ
last_of setup i = i + owned_of (stage_at setup i)

-- the stage at j owns the stage at i, for a j before i
abbrev pub owns : Setup → ℕ → ℕ → Condition
owns setup j i = at_most i (last_of setup j)

-- the stage at j owns the stage at i, but not every stage that i owns, for a j before i
abbrev pub outgrows : Setup → ℕ → ℕ → Condition
outgrows setup i j = both (owns setup j i) (less (last_of setup j) (last_of setup i))

-- how many of the first n stages own the one at i; with n = i this is its depth, and "top stages have depth 0"
unfoldable pub depth_of : Setup → ℕ → ℕ → ℕ
depth_of setup i zero = 0
depth_of setup i (suc n) = depth_of setup i n + cond (decide (owns setup n i)) 1 0

-- "wrong shape, or depth above 3": the stage at i owns stages beyond the list's end or an owner's end, or is too deep
unfoldable pub faulty : Setup → ℕ → Condition
faulty setup i = at_most (used_of setup) (last_of setup i) or among i (outgrows setup i) or less 3 (depth_of setup i i)
