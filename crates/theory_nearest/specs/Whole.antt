-- What "the nearest whole number to a fraction, ties to even" means. Definitions only.
-- That the library's `closest a b` is this number for a / b is proved by `closest_whole` of proofs/Whole.antt.
use Rattle.std.specs.Prelude.{ℕ, ◌+◌, ◌*◌, ◌%◌, ◌≤◌, ◌≡◌}

-- the whole number r is at most one half away from a / b, and even where it is exactly one half away
pub record NearestWhole (a b r : ℕ) : Type 0 where
  pub below : r * b * 2 ≤ a * 2 + b
  pub above : a * 2 ≤ r * b * 2 + b
  pub even_below : r * b * 2 ≡ a * 2 + b → r % 2 ≡ 0
  pub even_above : a * 2 ≡ r * b * 2 + b → r % 2 ≡ 0
