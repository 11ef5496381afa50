-- A condition in a table is written once and read in two ways: in plain logic (`Holds`) and as a test (`decide`).
-- Definitions only.
use Rattle.std.specs.Prelude.{◌≡◌, ◌⊎◌, ◌≢◌, Bool, false, not, ◌&&◌, ◌||◌, ℕ, ◌≤◌, ◌<◌, ltb, leb, eqb}
use Rattle.theory_tables.specs.First.{some}

-- what a row of a table may ask
pub data Condition : Type 0 where
  -- the first number is below the second
  less : ℕ → ℕ → Condition
  -- the first number is at most the second
  at_most : ℕ → ℕ → Condition
  -- the two numbers are the same
  same : ℕ → ℕ → Condition
  -- the two numbers differ
  differ : ℕ → ℕ → Condition
  -- a test fails
  fails : Bool → Condition
  -- one of two conditions is met
  either : Condition → Condition → Condition
  -- both of two conditions are met
  both : Condition → Condition → Condition
  -- one of n conditions is met, which are numbered from 0
  among : ℕ → (ℕ → Condition) → Condition

infixl 20 ◌or◌
-- `either`, written between its two conditions
abbrev pub ◌or◌ : Condition → Condition → Condition
c or d = either c d

-- the condition in plain logic
abbrev pub Holds : Condition → Type 0
Holds (less a b) = a < b
Holds (at_most a b) = a ≤ b
Holds (same a b) = a ≡ b
Holds (differ a b) = a ≢ b
Holds (fails t) = t ≡ false
Holds (either c d) = Holds c ⊎ Holds d
Holds (both c d) = Holds c × Holds d
Holds (among n c) = (i : ℕ) × (i < n) × Holds (c i)

-- the condition as a test
abbrev pub decide : Condition → Bool
decide (less a b) = ltb a b
decide (at_most a b) = leb a b
decide (same a b) = eqb a b
decide (differ a b) = not (eqb a b)
decide (fails t) = not t
decide (either c d) = decide c || decide d
decide (both c d) = decide c && decide d
decide (among n c) = some (λ i. decide (c i)) n
