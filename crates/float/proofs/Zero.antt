-- 0 as the code writes it, and which finite values equal it. Assumes nothing.
use Rattle.std.proofs.Common.{◌≡◌, refl, sym, ap, ◌∙◌, Bool, true, false, ◌||◌, ℕ, zero, suc, ◌*◌, ◌<◌, zero-lt-suc, zero-mul, mul-one, mul-pos, ne_of_lt, ℤ, pos, eqb, eqb→eq}
use Rattle.std.specs.Float.{Format, binary32, binary64}
use mathlib.Core.Bool.{beq}
use lib.Ieee.{fin, up, down, of_bits, eq, level}
use lib.Ieee.Fits.{up_pos, and_l}
use denote.Floats.{passes}

pub zero_is : (f : Format) → of_bits f 0 ≡ fin false 0 (pos 0)
unfolding of_bits
zero_is binary32 = refl
zero_is binary64 = refl

-- a finite value that is not 0, as it is compared with 0
pub some_size : (m : ℕ) (e : ℤ) → 0 < suc m * up e * 1
some_size m e = mul-pos (mul-pos (zero-lt-suc m) (up_pos e)) (zero-lt-suc 0)

-- 0 with either sign equals 0
pub equals_zero : (s : Bool) (e : ℤ) → eq (fin s 0 e) (fin false 0 (pos 0)) ≡ true
unfolding eq
equals_zero s e = at s (0 * up e * 1) (0 * 1 * down e) (mul-one (0 * up e) ∙ zero-mul (up e)) (zero-mul (down e))
  where
    at : (s : Bool) (a b : ℕ) → a ≡ 0 → b ≡ 0 → level s a false b ≡ true
    at true a b p q = ap (λ (x : ℕ). level true x false b) p ∙ ap (λ (x : ℕ). level true 0 false x) q
    at false a b p q = ap (λ (x : ℕ). level false x false b) p ∙ ap (λ (x : ℕ). level false 0 false x) q

-- and no other finite value does
pub zero_size : (s : Bool) (m : ℕ) (e : ℤ) → eq (fin s m e) (fin false 0 (pos 0)) ≡ true → m ≡ 0
unfolding eq
zero_size s zero e h = refl
zero_size s (suc m) e h =
    let g : suc m * up e * 1 ≡ 0 * 1 * down e = eqb→eq (suc m * up e * 1) (0 * 1 * down e) (and_l (eqb (suc m * up e * 1) (0 * 1 * down e)) (beq s false || eqb (suc m * up e * 1) 0) (passes _ h)) in
    absurd (ne_of_lt (some_size m e) (sym (g ∙ zero-mul (down e))))
