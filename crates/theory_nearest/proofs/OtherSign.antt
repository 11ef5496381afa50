-- A value of the other sign is farther: the nearest value with its own sign has at most twice the magnitude of t, since the zero with that sign is not nearer. Assumes nothing.
use Rattle.std.proofs.Common.{◌≡◌, sym, ap, ◌∙◌, inl, inr, Bool, true, false, ℕ, ◌+◌, ◌-◌, ◌*◌, ◌^◌, ◌≤◌, ◌<◌, zero-le, le_of_eq, lt_of_lt_of_le, lt_of_le_of_lt, eq-or-lt_of_le, mul-one, zero-mul, add-zero, mul_assoc, mul_right_comm, mul-lt-mul_of_pos_right, arith, T, Float}
use Rattle.std.specs.Float.{Format, binary32, binary64}
use native.Mathlib.Nat.{one-le-pow}
use lib.Ieee.{fits, to_bits}
use lib.Ieee.Positive.{first_pos}
use Rattle.theory_nearest.specs.Nearest.{Nearest, Nearer, Farther, Smaller, over, under, sum, product, difference, signed, last_digit}
use Rattle.theory_nearest.specs.Ieee754.{zero_of}
use Rattle.theory_nearest.proofs.Powers.{mul_pow, powers_le}
use Rattle.theory_nearest.proofs.Magnitude.{under_pos, beq_refl}

-- ---- the zero with the sign s
pub zero_held : (f : Format) (s : Bool) → T (fits f (zero_of s))
unfolding fits
zero_held f s = tt

pub zero_even : (f : Format) (s : Bool) → last_digit f (zero_of s) ≡ 1 → ⊥
unfolding to_bits
zero_even binary32 true h = omega arith
zero_even binary32 false h = omega arith
zero_even binary64 true h = omega arith
zero_even binary64 false h = omega arith

module _ (f : Format) (s : Bool) (j n d : ℕ) (y : Float) (near : (z : Float) → T (fits f z) → T (signed s z) → Nearer f j n d y z) where
  -- t is past half of y's magnitude
  past_half : 0 < over f y → over f y ^ j * d < n * (2 * under y) ^ j
  past_half l = go (near (zero_of s) (zero_held f s) (beq_refl s))
    where
      sum_is : sum f y (zero_of s) ≡ over f y
      sum_is = ap (λ (x : ℕ). over f y * 1 + x) (zero-mul (under y)) ∙ add-zero (over f y * 1) ∙ mul-one (over f y)

      less : Smaller f (zero_of s) y
      less = lt_of_le_of_lt (le_of_eq (zero-mul (under y))) (lt_of_lt_of_le l (le_of_eq (sym (mul-one (over f y)))))

      apart : over f y * 1 ≡ 0 * under y → ⊥
      apart e = let a = mul-one (over f y) in let b = zero-mul (under y) in omega arith

      go : Nearer f j n d y (zero_of s) → over f y ^ j * d < n * (2 * under y) ^ j
      go g = elim (eq-or-lt_of_le (g.above less)) [
        | inl e ↦ absurd (zero_even f s (g.tie apart (sym e)).1)
        | inr v ↦ rw (sum_is, mul-one) at v
      ]

  other_farther : (z : Float) → Farther f j n d y z
  other_farther z l =
      let U = under z ^ j in
      let a : difference f y z ^ j * d ≤ (over f y * under z) ^ j * d = powers_le j d (less (over f y * under z) (over f z * under y)) in
      let b : (over f y * under z) ^ j * d ≡ over f y ^ j * d * U = ap (λ (x : ℕ). x * d) (mul_pow (over f y) (under z) j) ∙ mul_right_comm (over f y ^ j) U d in
      let c : n * (2 * under y) ^ j * U ≡ n * (2 * product y z) ^ j = mul_assoc n ((2 * under y) ^ j) U ∙ ap (λ (x : ℕ). n * x) (sym (mul_pow (2 * under y) (under z) j) ∙ ap (λ (x : ℕ). x ^ j) (mul_assoc 2 (under y) (under z))) in
      let some : 0 < over f y = first_pos (over f y) (under z) (lt_of_le_of_lt zero-le l) in
      lt_of_le_of_lt a (lt_of_le_of_lt (le_of_eq b) (lt_of_lt_of_le (mul-lt-mul_of_pos_right (past_half some) (one-le-pow j (under z) (under_pos z))) (le_of_eq c)))
    where
      less : (a b : ℕ) → a - b ≤ a
      less a b = omega arith

  -- so it is enough to look at the values with y's sign
  pub of_one_sign : T (fits f y) → T (signed s y) → Nearest f s j n d y
  of_one_sign held sign = record { held = held; sign = sign; nearest = near; farther = λ z t p. other_farther z }
