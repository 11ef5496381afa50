-- IEEE 754-2019's square root and its conversion to another format, case by case, ties going to the even value. The
-- clauses named here are the standard's. Definitions only.
-- A finite number is `fin s m e`: its magnitude m * 2 ^ e is the fraction (m * up e) / down e, and it is negative where
-- s is true. `sqrt_of` and `narrow_of` of crate `rounding` are these two operations: `square_root` and `narrowing` of
-- proofs/Ieee754.antt. No other function is: `one_square_root`, for the format's values, and `one_narrowing`.
use Rattle.std.specs.Prelude.{ℕ, suc, ◌-◌, ◌*◌, ◌^◌, ◌≤◌, ◌<◌, ◌≡◌, ◌⊎◌, Bool, true, false, T, ℤ, pos, Float}
use Rattle.std.specs.Float.{nan, inf, fin, Format}
use Rattle.std.specs.Float.Ieee.{prec, emax, low, hid, up, down, fits}
use Rattle.std.specs.Float.Ieee.Scale.{finite}
use Rattle.theory_nearest.specs.Nearest.{TheNearest, Smaller, over, under, sum, product, last_digit, signed}
use Rattle.theory_nearest.specs.Whole.{NearestWhole}

-- the zero with the sign s
abbrev pub zero_of : Bool → Float
zero_of s = fin s 0 (pos 0)

-- root is the square root of the format's values
pub record SquareRoot (f : Format) (root : Float → Float) : Type 0 where
  -- 6.2: of NaN it is NaN
  pub of_nan : root nan ≡ nan
  -- 6.1: of +infinity it is +infinity
  pub of_infinity : root (inf false) ≡ inf false
  -- 7.2: of what is less than zero it is NaN; so of -infinity
  pub of_minus_infinity : root (inf true) ≡ nan
  -- and of a negative number
  pub of_negative : (m : ℕ) (e : ℤ) → 0 < m → T (fits f (fin true m e)) → root (fin true m e) ≡ nan
  -- 5.4.1: of a zero it is that zero, "squareRoot(-0) shall be -0"
  pub of_zero : (s : Bool) → root (zero_of s) ≡ zero_of s
  -- 5.4.1, 4.3.1: of a positive number it is the value nearest to the real root, whose square is that number
  pub of_positive : (m : ℕ) (e : ℤ) → 0 < m → T (fits f (fin false m e))
      → TheNearest f false 2 (m * up e) (down e) (root (fin false m e))

-- y and z are neighbours: values of the format with the sign s, y the smaller one, and no such value between them
pub record Neighbours (f : Format) (s : Bool) (y z : Float) : Type 0 where
  pub held : T (fits f y) × T (fits f z)
  pub sign : T (signed s y) × T (signed s z)
  pub order : Smaller f y z
  pub gap : (w : Float) → T (fits f w) → T (signed s w) → Smaller f y w → Smaller f w z → ⊥

-- the magnitude n / d is the mean of y's and z's
abbrev pub HalfWay : Format → ℕ → ℕ → Float → Float → Type 0
HalfWay f n d y z = n * (2 * product y z) ≡ sum f y z * d

-- the least magnitude that overflows, 2 ^ emax * (2 - 2 ^ -prec), which is half way from the largest finite value to
-- 2 ^ (emax + 1)
abbrev pub overflow_from : Format → ℕ
overflow_from f = 2 ^ suc (emax f) - 2 ^ (emax f - prec f)

-- y is a multiple of the format's smallest positive value, 2 ^ -low, and of all multiples the nearest to n / d
pub record NearestMultiple (f : Format) (n d : ℕ) (y : Float) : Type 0 where
  pub count : ℕ
  pub nearest : NearestWhole (n * 2 ^ low f) d count
  pub size : over f y * 2 ^ low f ≡ count * under y

-- narrow is the conversion of any value, of whatever format, to the format f: 5.4.2, convertFormat
pub record Narrowing (f : Format) (narrow : Float → Float) : Type 0 where
  -- 6.2: NaN becomes NaN
  pub of_nan : narrow nan ≡ nan
  -- 6.1: an infinity becomes the same infinity
  pub of_infinity : (s : Bool) → narrow (inf s) ≡ inf s
  -- 6.3: a zero keeps its sign
  pub of_zero : (s : Bool) → narrow (zero_of s) ≡ zero_of s
  -- 4.3.1: a finite number becomes the value nearest to it, of the same sign
  pub of_finite : (s : Bool) (m : ℕ) (e : ℤ) → TheNearest f s 1 (m * up e) (down e) (narrow (fin s m e))
  -- what the format holds stays as it is, its subnormal numbers too
  pub exact : (x : Float) → T (fits f x) → narrow x ≡ x
  -- "if the two nearest floating-point numbers bracketing an unrepresentable infinitely precise result are equally
  -- near, the one with an even least significant digit shall be delivered"
  pub tie : (s : Bool) (m : ℕ) (e : ℤ) (y z : Float) → Neighbours f s y z → HalfWay f (m * up e) (down e) y z
      → (last_digit f (narrow (fin s m e)) ≡ 0) × ((narrow (fin s m e) ≡ y) ⊎ (narrow (fin s m e) ≡ z))
  -- "an infinitely precise result with magnitude at least" `overflow_from` "shall round to ∞ with no change in sign"
  pub overflow : (s : Bool) (m : ℕ) (e : ℤ) → overflow_from f * down e ≤ m * up e → narrow (fin s m e) ≡ inf s
  -- and a smaller one to a finite value
  pub no_overflow : (s : Bool) (m : ℕ) (e : ℤ) → m * up e < overflow_from f * down e → T (finite (narrow (fin s m e)))
  -- below the least normal number, hid * 2 ^ -low, the format holds all multiples of 2 ^ -low, and the nearest is given
  pub subnormal : (s : Bool) (m : ℕ) (e : ℤ) → m * up e * 2 ^ low f < hid f * down e
      → NearestMultiple f (m * up e) (down e) (narrow (fin s m e))
  -- so what is at most half of the smallest positive value becomes a zero, with the sign that it had
  pub underflow : (s : Bool) (m : ℕ) (e : ℤ) → m * up e * 2 ^ low f * 2 ≤ down e → narrow (fin s m e) ≡ zero_of s
  -- and nothing larger becomes a zero
  pub no_underflow : (s : Bool) (m : ℕ) (e : ℤ) → down e < m * up e * 2 ^ low f * 2 → narrow (fin s m e) ≡ zero_of s → ⊥
