-- A value is finite exactly where its bits, without the sign, are below an infinity's. Assumes nothing.
use Rattle.std.proofs.Common.{◌≡◌, refl, sym, ap, ◌∙◌, Bool, true, false, ◌&&◌, cond, ℕ, zero, suc, ◌+◌, ◌-◌, ◌*◌, ◌/◌, ◌%◌, ◌^◌, ◌≤◌, ◌<◌, mod-eq_of_lt, zero-add, le_refl, le_of_eq, lt_trans, lt_of_lt_of_le, lt_of_le_of_lt, zero-mul, mul_right_comm, mul-pos, mul-lt-mul_of_pos_right, div-lt_iff_lt-mul, arith, ℤ, T, leb, ltb, eqb, ltb→lt, pow-add, pow_pos, lt-ltb, le-ltb, Float}
use Rattle.std.specs.Float.{nan, Format, binary32, binary64}
use native.Mathlib.Nat.{add-mod_left}
use denote.Floats.{passes}
use lib.Ieee.{inf, fin, prec, emax, low, up, down, size, hid, ones, top, fits, to_bits}
use lib.Ieee.Digits.{size-le}
use lib.Ieee.Fits.{down_pos, and_r, kept-lt}
use Rattle.float.specs.Finite.{finite_of}
use Rattle.float.proofs.Fields.{two_more, hid_twice}
use Rattle.float.proofs.Patterns.{inf_below_top}

-- ---- the bits of a finite value that is not negative
below_inf : (f : Format) (n : ℕ) → n < 2 ^ (suc (emax f) + low f) → 0 + (size n - prec f) * hid f + n / 2 ^ (size n - prec f) < ones f * hid f
below_inf f n h = join ((size n - prec f) * hid f) (n / 2 ^ (size n - prec f)) (ones f * hid f) (hid f * 2) (lt_of_lt_of_le (kept-lt (prec f) n) (le_of_eq (hid_twice f))) (two_more (size n - prec f) (ones f) (hid f) (room f (size n) (size-le n (suc (emax f) + low f) h)))
  where
    join : (a b c d : ℕ) → b < d → a + d ≤ c → 0 + a + b < c
    join a b c d x y = omega arith

    room : (f : Format) (z : ℕ) → z ≤ suc (emax f) + low f → suc (suc (z - prec f)) ≤ ones f
    room binary32 z l = omega arith
    room binary64 z l = omega arith

pub finite_bits : (f : Format) (m : ℕ) (e : ℤ) → T (fits f (fin false m e)) → to_bits f (fin false m e) < ones f * hid f
unfolding to_bits fits
finite_bits f zero e t = below_inf f (0 * up e * 2 ^ low f / down e) ((div-lt_iff_lt-mul (down_pos e)).1 (lt_of_le_of_lt (le_of_eq (ap (λ (x : ℕ). x * 2 ^ low f) (zero-mul (up e)) ∙ zero-mul (2 ^ low f))) (mul-pos (pow_pos (suc (emax f) + low f)) (down_pos e))))
finite_bits f (suc m) e t =
    let d = ltb→lt (suc m * up e) (2 ^ suc (emax f) * down e) (and_r (eqb (suc m % 2) 1 && ltb (suc m) (2 ^ prec f) && leb (down e) (2 ^ low f)) (ltb (suc m * up e) (2 ^ suc (emax f) * down e)) t) in
    below_inf f (suc m * up e * 2 ^ low f / down e)
    ((div-lt_iff_lt-mul (down_pos e)).1
    (lt_of_lt_of_le (mul-lt-mul_of_pos_right d (pow_pos (low f)))
    (le_of_eq (mul_right_comm (2 ^ suc (emax f)) (down e) (2 ^ low f) ∙ ap (λ (x : ℕ). x * down e) (sym (pow-add 2 (suc (emax f)) (low f)))))))

-- ---- and of any value
-- the bits of a value and of its opposite differ by the sign
unsigned : (f : Format) (s : Bool) (m : ℕ) (e : ℤ) → to_bits f (fin s m e) ≡ cond s (top f) 0 + to_bits f (fin false m e)
unfolding to_bits
unsigned f s m e = add_up (cond s (top f) 0) _ _
  where
    add_up : (a b c : ℕ) → a + b + c ≡ a + (0 + b + c)
    add_up a b c = omega arith

-- and the sign is a whole `top`
off_sign : (f : Format) (s : Bool) (n : ℕ) → n < top f → (cond s (top f) 0 + n) % top f ≡ n
off_sign f true n h = add-mod_left (top f) n ∙ mod-eq_of_lt h
off_sign f false n h = ap (λ (x : ℕ). x % top f) (zero-add n) ∙ mod-eq_of_lt h

-- whether a value fits does not turn on its sign
fits_unsigned : (f : Format) (s : Bool) (m : ℕ) (e : ℤ) → T (fits f (fin s m e)) → T (fits f (fin false m e))
unfolding fits
fits_unsigned f s zero e t = t
fits_unsigned f s (suc m) e t = t

finite_bit : (f : Format) (x : Float) → T (fits f x) → ltb (to_bits f x % top f) (ones f * hid f) ≡ finite_of x
unfolding finite_of to_bits
finite_bit binary32 nan t = refl
finite_bit binary64 nan t = refl
finite_bit f (inf s) t = ap (λ (n : ℕ). ltb n (ones f * hid f)) (off_sign f s (ones f * hid f) (inf_below_top f)) ∙ le-ltb (ones f * hid f) (ones f * hid f) (le_refl (ones f * hid f))
finite_bit f (fin s m e) t =
    let h = finite_bits f m e (fits_unsigned f s m e t) in
    ap (λ (n : ℕ). ltb (n % top f) (ones f * hid f)) (unsigned f s m e) ∙ ap (λ (n : ℕ). ltb n (ones f * hid f)) (off_sign f s (to_bits f (fin false m e)) (lt_trans h (inf_below_top f))) ∙ lt-ltb (to_bits f (fin false m e)) (ones f * hid f) h

-- so the code tests the bits b of x
pub finite_test : (f : Format) (x : Float) (b : ℕ) → fits f x ≡ true → b ≡ to_bits f x → ltb (b % top f) (ones f * hid f) ≡ finite_of x
finite_test f x b t e = ap (λ (n : ℕ). ltb (n % top f) (ones f * hid f)) e ∙ finite_bit f x (passes _ t)
