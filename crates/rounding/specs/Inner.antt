-- What the contracts of private functions cite, and the laws that prove them. A reader of the public promises can skip
-- this file. Definitions only.
use Rattle.std.specs.Prelude.{ℕ, ◌+◌, ◌-◌, ◌*◌, ◌/◌, ◌^◌, ◌≤◌, ◌<◌, min, ◌≡◌}
use Rattle.std.specs.Float.{Format}
use Rattle.std.specs.Float.Ieee.{hid, ones, size}
use Rattle.rounding.specs.Root.{nearest_root}

-- q is the whole part of the root of w * 4 ^ n / 2 ^ 64, rest is the remainder, and q has at most n binary digits
pub record Rooted (w n q rest : ℕ) : Type 0 where
  pub whole : q * q + rest ≡ w * 4 ^ n / 2 ^ 64
  pub small : rest ≤ 2 * q
  pub short : q < 2 ^ n

-- what `scaled_root` requires: it takes the root of q * 2 ^ j and keeps p binary digits of it
pub record Rootable (q j p : ℕ) : Type 0 where
  pub some : 0 < q
  pub short : q < 2 ^ 53
  pub digits : p ≤ 53
  pub wide : 22 ≤ p
  pub long : 2 * p ≤ j
  pub little : j < 2 ^ 32

-- what `scaled_root` gives: r is that root, rounded to its p leading digits, and k is how many digits are dropped
pub record ScaledRoot (q j p r k : ℕ) : Type 0 where
  pub places : k ≡ (size (q * 2 ^ j) + 1) / 2 - p
  pub nearest : r ≡ nearest_root (q * 2 ^ j / 4 ^ k)
  pub low : 2 ^ (p - 1) ≤ r
  pub high : r ≤ 2 ^ p
  pub little : k ≤ j

-- The bits, without the sign, of r * 2 ^ k times the format's smallest positive value, and an infinity's bits where
-- that is too large. Here r has all the digits of a significand, or k is 0.
abbrev pub pattern : Format → ℕ → ℕ → ℕ
pattern f r k = min (k * hid f + r) (ones f * hid f)
