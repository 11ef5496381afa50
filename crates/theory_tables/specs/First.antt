-- The first number that passes a test: how a refusal finds its place. Definitions only.
use Rattle.std.specs.Prelude.{Bool, cond, ℕ, zero, suc, ltb, Option, Some, None}

-- the first of the m numbers from k on that passes the test t; k + m where none does
unfoldable pub first_from : (ℕ → Bool) → ℕ → ℕ → ℕ
first_from t zero k = k
first_from t (suc m) k = cond (t k) k (first_from t m (suc k))

-- the first number below n that passes the test t; n where none does
abbrev pub first_of : (ℕ → Bool) → ℕ → ℕ
first_of t n = first_from t n 0

-- some number below n passes the test t
abbrev pub some : (ℕ → Bool) → ℕ → Bool
some t n = ltb (first_of t n) n

-- the first number below n that passes the test t, if one does
abbrev pub found_of : (ℕ → Bool) → ℕ → Option ℕ
found_of t n = cond (some t n) (Some (first_of t n)) None
