-- What "the format's value nearest to a real number" means, ties going to the even value. Definitions only.
-- The proofs about the square root, the narrowing and the lists of amplitudes all end in this one rule.
-- The real number t is not negative, and is given by one of its powers: t ^ j = n / d. So j is 1 for a fraction, 2 for
-- a square root, and 20 or 40 for an amplitude. Then t lies below, at or above a fraction a / b exactly where n * b ^ j
-- is below, at or above a ^ j * d.
use Rattle.std.specs.Prelude.{ℕ, suc, ◌+◌, ◌-◌, ◌*◌, ◌%◌, ◌^◌, ◌≤◌, ◌<◌, ◌≡◌, Bool, false, not, T, Float}
use Rattle.std.specs.Bool.{beq}
use Rattle.std.specs.Float.{nan, inf, fin, Format}
use Rattle.std.specs.Float.Ieee.{emax, up, down, fits, to_bits}

-- A value's magnitude is the fraction over / under; this is its numerator. An infinity counts as 2 ^ (emax + 1), the
-- first number past the format's: so overflow begins half way from the largest finite value to it, as in IEEE 754.
-- NaN has no magnitude; what stands here for it is never used.
abbrev pub over : Format → Float → ℕ
over f nan = 0
over f (inf s) = 2 ^ suc (emax f)
over f (fin s m e) = m * up e

-- the denominator of the magnitude
abbrev pub under : Float → ℕ
under nan = 1
under (inf s) = 1
under (fin s m e) = down e

-- the magnitude of y is less than that of z
abbrev pub Smaller : Format → Float → Float → Type 0
Smaller f y z = over f y * under z < over f z * under y

-- the mean of two magnitudes is the fraction sum / (2 * product); this is its numerator
abbrev pub sum : Format → Float → Float → ℕ
sum f y z = over f y * under z + over f z * under y

-- the mean of y's magnitude and z's, where z has the other sign and the smaller magnitude, is the fraction
-- difference / (2 * product), on y's side of zero; this is its numerator
abbrev pub difference : Format → Float → Float → ℕ
difference f y z = over f y * under z - over f z * under y

-- half of either mean's denominator
abbrev pub product : Float → Float → ℕ
product y z = under y * under z

-- the last digit of the bit pattern, 0 for an even value; it decides a tie
abbrev pub last_digit : Format → Float → ℕ
last_digit f y = to_bits f y % 2

-- whether the value has the sign s, where true is negative; NaN has neither sign
abbrev pub signed : Bool → Float → Bool
signed s nan = false
signed s (inf t) = beq t s
signed s (fin t m e) = beq t s

-- t lies on y's side of the mean of y and z, or it is the mean and y is the even one of the two
pub record Nearer (f : Format) (j n d : ℕ) (y z : Float) : Type 0 where
  pub below : Smaller f y z → n * (2 * product y z) ^ j ≤ sum f y z ^ j * d
  pub above : Smaller f z y → sum f y z ^ j * d ≤ n * (2 * product y z) ^ j
  pub tie : (over f y * under z ≡ over f z * under y → ⊥) → n * (2 * product y z) ^ j ≡ sum f y z ^ j * d
      → (last_digit f y ≡ 0) × (last_digit f z ≡ 1)

-- z, a value of the other sign, is no nearer to t than y is: t lies past their mean. Where z's magnitude is no smaller
-- than y's, nothing is asked: their mean is zero or lies beyond it, and t does not. The two zeros are equally near.
abbrev pub Farther : Format → ℕ → ℕ → ℕ → Float → Float → Type 0
Farther f j n d y z = Smaller f z y → difference f y z ^ j * d < n * (2 * product y z) ^ j

-- y has the sign s, and of all values of the format it is the nearest to the number of that sign whose magnitude is t
pub record Nearest (f : Format) (s : Bool) (j n d : ℕ) (y : Float) : Type 0 where
  pub held : T (fits f y)
  pub sign : T (signed s y)
  pub nearest : (z : Float) → T (fits f z) → T (signed s z) → Nearer f j n d y z
  pub farther : (z : Float) → T (fits f z) → T (signed (not s) z) → Farther f j n d y z

-- y is the nearest value, and no other value is
pub record TheNearest (f : Format) (s : Bool) (j n d : ℕ) (y : Float) : Type 0 where
  pub nearest : Nearest f s j n d y
  pub only : (z : Float) → Nearest f s j n d z → z ≡ y
