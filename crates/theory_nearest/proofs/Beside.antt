-- `Nearer` said of the magnitudes in units of the format's smallest value, and back. Assumes nothing.
use Rattle.std.proofs.Common.{◌≡◌, sym, ap, ◌∙◌, ℕ, ◌+◌, ◌*◌, ◌^◌, ◌≤◌, ◌<◌, mul_assoc, mul_right_comm, mul-pos, pow_pos, Float}
use Rattle.std.specs.Float.{Format}
use native.Mathlib.Nat.{one-le-pow}
use lib.Ieee.{low}
use Rattle.theory_nearest.specs.Nearest.{Nearer, last_digit, sum, product}
use Rattle.theory_nearest.proofs.Powers.{mul_pow, scaled_le, scaled_eq}
use Rattle.theory_nearest.proofs.Magnitude.{Mag, under_pos, smaller→lt, lt→smaller, same→same, same_size, sum_mag}

-- y is Y units and z is Z units in size
pub record Beside (f : Format) (j n d : ℕ) (y z : Float) (Y Z : ℕ) : Type 0 where
  pub below : Y < Z → n * (2 * 2 ^ low f) ^ j ≤ (Y + Z) ^ j * d
  pub above : Z < Y → (Y + Z) ^ j * d ≤ n * (2 * 2 ^ low f) ^ j
  pub tie : (Y ≡ Z → ⊥) → n * (2 * 2 ^ low f) ^ j ≡ (Y + Z) ^ j * d → (last_digit f y ≡ 0) × (last_digit f z ≡ 1)

module _ (f : Format) (j n d : ℕ) (y z : Float) (Y Z : ℕ) (hy : Mag f y Y) (hz : Mag f z Z) where
  abbrev L : ℕ
  L = 2 ^ low f

  abbrev P : ℕ
  P = product y z

  abbrev S : ℕ
  S = sum f y z

  some_L : 0 < L ^ j
  some_L = one-le-pow j L (pow_pos (low f))

  some_P : 0 < P ^ j
  some_P = one-le-pow j P (mul-pos (under_pos y) (under_pos z))

  number_is : n * (2 * P) ^ j * L ^ j ≡ n * (2 * L) ^ j * P ^ j
  number_is = mul_assoc n ((2 * P) ^ j) (L ^ j) ∙ ap (λ (x : ℕ). n * x) (sym (mul_pow (2 * P) L j) ∙ ap (λ (x : ℕ). x ^ j) (mul_right_comm 2 P L) ∙ mul_pow (2 * L) P j) ∙ sym (mul_assoc n ((2 * L) ^ j) (P ^ j))

  mean_is : S ^ j * d * L ^ j ≡ (Y + Z) ^ j * d * P ^ j
  mean_is = mul_right_comm (S ^ j) d (L ^ j) ∙ ap (λ (x : ℕ). x * d) (sym (mul_pow S L j) ∙ ap (λ (x : ℕ). x ^ j) (sum_mag f y z Y Z hy hz) ∙ mul_pow (Y + Z) P j) ∙ mul_right_comm ((Y + Z) ^ j) (P ^ j) d

  -- t is at the mean of y and z, in units
  pub in_units : n * (2 * P) ^ j ≡ S ^ j * d → n * (2 * L) ^ j ≡ (Y + Z) ^ j * d
  in_units e = scaled_eq _ _ _ _ _ _ some_L some_P number_is mean_is e

  pub nearer : Beside f j n d y z Y Z → Nearer f j n d y z
  nearer b =
      record {
        below = λ l. scaled_le _ _ _ _ _ _ some_L some_P number_is mean_is (b.below (smaller→lt f y z Y Z hy hz l));
        above = λ l. scaled_le _ _ _ _ _ _ some_L some_P mean_is number_is (b.above (smaller→lt f z y Z Y hz hy l));
        tie = λ ne e. b.tie (λ v. ne (same→same f y z Y Z hy hz v)) (in_units e);
      }

  pub beside : Nearer f j n d y z → Beside f j n d y z Y Z
  beside b =
      record {
        below = λ l. scaled_le _ _ _ _ _ _ some_P some_L (sym number_is) (sym mean_is) (b.below (lt→smaller f y z Y Z hy hz l));
        above = λ l. scaled_le _ _ _ _ _ _ some_P some_L (sym mean_is) (sym number_is) (b.above (lt→smaller f z y Z Y hz hy l));
        tie = λ ne e. b.tie (λ v. ne (same_size f y z Y Z hy hz v)) (scaled_eq _ _ _ _ _ _ some_P some_L (sym number_is) (sym mean_is) e);
      }
