-- The laws of a quotient that is rounded to the nearest whole number, a tie to the even one. Assumes nothing.
use Rattle.std.proofs.Common.{◌≡◌, sym, ap, ◌∙◌, Bool, cond, ℕ, ◌+◌, ◌*◌, ◌/◌, ◌%◌, ◌^◌, ◌≤◌, ◌<◌, le_trans, le_of_eq, lt_of_lt_of_le, ne_of_lt, one-mul, mul-le-mul_left, div-mul-le_self, le-div_iff_mul-le, div-lt_iff_lt-mul, add-one, arith, lit<, pow-add, pow_pos, shl_exact, eq-eqb, ne_eqb}
use Prim.Native.Nat.{compare}
use lib.Arith.{le-zero}
use lib.Ieee.{nearest}
use lib.Ieee.Fits.{nearest-le}
use lib.Ieee.Nearest.{closest, nearest-ge, closest_mono}
use Rattle.rounding.specs.Quotient.{quotient_of}
use Rattle.rounding.proofs.Compare.{at_lt, at_eq, at_gt}

pub no_quotient : (a b : ℕ) → b ≡ 0 → 0 ≡ quotient_of a b
unfolding quotient_of
no_quotient a b e = sym (ap (λ (t : Bool). cond t 0 (closest a b)) (eq-eqb b 0 e))

quotient_is : (a b : ℕ) → 0 < b → quotient_of a b ≡ closest a b
unfolding quotient_of
quotient_is a b h = ap (λ (t : Bool). cond t 0 (closest a b)) (ne_eqb b 0 (λ (e : b ≡ 0). ne_of_lt h (sym e)))

-- ---- by what the division leaves
module _ (a b : ℕ) (B : 0 < b) where
  pub rounds_down : a % b * 2 < b → a / b ≡ quotient_of a b
  rounds_down l = ap (nearest (a / b)) (sym (at_lt (a % b * 2) b l)) ∙ sym (quotient_is a b B)

  pub rounds_up : b < a % b * 2 → a / b + 1 ≡ quotient_of a b
  rounds_up l = add-one (a / b) ∙ ap (nearest (a / b)) (sym (at_gt (a % b * 2) b l)) ∙ sym (quotient_is a b B)

  pub rounds_even : a % b * 2 ≡ b → a / b + a / b % 2 ≡ quotient_of a b
  rounds_even l = ap (nearest (a / b)) (sym (at_eq (a % b * 2) b l)) ∙ sym (quotient_is a b B)

-- the whole part of a quotient by 2 or more has room for one more
pub half_at_most : (a b : ℕ) → 2 ≤ b → a / b * 2 ≤ a
half_at_most a b h = le_trans (mul-le-mul_left (a / b) h) (div-mul-le_self a b)

-- ---- at most a half of b
pub closest_zero : (a b : ℕ) → 0 < b → a * 2 ≤ b → closest a b ≡ 0
closest_zero a b B h = le-zero (closest_mono a b 1 2 B (lit< tt) (le_trans h (le_of_eq (sym (one-mul b)))))

-- ---- q / 2 ^ d
pub closest_le : (q d p : ℕ) → q < 2 ^ (p + d) → closest q (2 ^ d) ≤ 2 ^ p
closest_le q d p h = le_trans (nearest-le (q / 2 ^ d) (compare (q % 2 ^ d * 2) (2 ^ d))) ((div-lt_iff_lt-mul (pow_pos d)).1 (lt_of_lt_of_le h (le_of_eq (pow-add 2 p d))))

pub closest_ge : (q d p : ℕ) → 2 ^ (p + d) ≤ q → 2 ^ p ≤ closest q (2 ^ d)
closest_ge q d p h = le_trans ((le-div_iff_mul-le (pow_pos d)).1 (le_trans (le_of_eq (sym (pow-add 2 p d))) h)) (nearest-ge (q / 2 ^ d) (compare (q % 2 ^ d * 2) (2 ^ d)))

-- and as the code has it: the divisor is a shifted 1, or written out
pub quotient_shl : (q d : ℕ) → d < 64 → quotient_of q (1 * 2 ^ d % 2 ^ 64) ≡ closest q (2 ^ d)
quotient_shl q d h = ap (quotient_of q) (shl_exact {a = 1} 1 d 64 (lit< tt) (omega arith) ∙ one-mul (2 ^ d)) ∙ quotient_is q (2 ^ d) (pow_pos d)

pub quotient_pow : (q d : ℕ) → quotient_of q (2 ^ d) ≡ closest q (2 ^ d)
quotient_pow q d = quotient_is q (2 ^ d) (pow_pos d)
