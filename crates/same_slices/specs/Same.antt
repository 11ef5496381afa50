-- Whether two lists are the same, place by place. Definitions only.
use Rattle.std.specs.Prelude.{Bool, true, false, ◌&&◌, List, [], ◌∷◌, ℕ, eqb, Float}
use Rattle.std.specs.Float.{binary32}
use Rattle.std.specs.Float.Ieee.{to_bits}

-- whether two lists have the same length, and elements with the same code at each place
unfoldable pub same_by : {A : Type 0} → (A → ℕ) → List A → List A → Bool
same_by code [] [] = true
same_by code [] (y ∷ b) = false
same_by code (x ∷ a) [] = false
same_by code (x ∷ a) (y ∷ b) = eqb (code x) (code y) && same_by code a b

-- whether two lists have the same floats, bit for bit; all NaNs count as one
abbrev pub same_floats : List Float → List Float → Bool
same_floats a b = same_by (to_bits binary32) a b
