-- An order is a list of numbers, and each of them names a step to take. S is any type of state.
use Rattle.std.specs.Prelude.{List, [], ◌∷◌, ℕ, ◌+◌}
use Rattle.std.proofs.Math.Decide.{ℕ_discrete}

-- ---- counting the entries of an order

-- 1 where P holds, else 0
abbrev pub one_if : {P : Type 0} → Dec P → ℕ
one_if (yes e) = 1
one_if (no d) = 0

-- 1 where i is k, else 0
unfoldable pub hit : ℕ → ℕ → ℕ
hit i k = one_if (ℕ_discrete i k)

-- how often an order names i
unfoldable pub count : ℕ → List ℕ → ℕ
count i [] = 0
count i (k ∷ ks) = hit i k + count i ks

-- ---- an order run, and an order allowed, entry by entry

module _ {S : Type 0} (step : ℕ → S → S) where
  -- what is left once the steps are taken, one after another
  abbrev pub run : S → List ℕ → S
  run s [] = s
  run s (k ∷ ks) = run (step k s) ks

  -- each step may be taken (`Ok`) in the state that the steps before it leave
  abbrev pub Allowed : (S → ℕ → Type 0) → S → List ℕ → Type 0
  Allowed Ok s [] = Unit {0}
  Allowed Ok s (k ∷ ks) = Ok s k × Allowed Ok (step k s) ks
