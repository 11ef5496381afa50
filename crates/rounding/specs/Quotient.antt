-- A quotient to the nearest whole number, a tie to the even one. Definitions only.
-- `closest` is the library's. That it gives this number is proved by `closest_whole` of crate `theory_nearest`, in the
-- words of its specs/Whole.antt.
use Rattle.std.specs.Prelude.{ℕ, cond, eqb}
use Rattle.std.specs.Float.Ieee.Nearest.{closest}

-- the whole number nearest to a / b, a tie going to the even one; 0 where b is 0
unfoldable pub quotient_of : ℕ → ℕ → ℕ
quotient_of a b = cond (eqb b 0) 0 (closest a b)
