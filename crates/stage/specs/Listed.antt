-- The list of what a function gives, place after place. Definitions only.
use Rattle.std.specs.Prelude.{List, [], ◌∷◌, ℕ, zero, suc}

module _ {A : Type 0} where
  -- what f gives at the n places from i on
  unfoldable pub list_from : (ℕ → A) → ℕ → ℕ → List A
  list_from f i zero = []
  list_from f i (suc n) = f i ∷ list_from f (suc i) n

  -- what f gives at the first n places
  abbrev pub list_of : (ℕ → A) → ℕ → List A
  list_of f n = list_from f 0 n
