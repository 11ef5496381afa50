-- A value's magnitude in units of the format's smallest value, an infinity counted as in specs/Nearest.antt: which magnitudes there are, that the order of values is theirs, and that a magnitude and a sign make a value. Assumes nothing.
use Rattle.std.proofs.Common.{◌≡◌, refl, sym, ap, ◌∙◌, ℕ, zero, suc, ◌+◌, ◌-◌, ◌*◌, ◌%◌, ◌^◌, ◌≤◌, ◌<◌, le_of_eq, le_of_lt, lt_of_lt_of_le, lt_of_le_of_lt, lt_irrefl, zero-lt-suc, zero-mul, mul-one, one-mul, mul_comm, mul_assoc, mul_right_comm, mul-pos, mul-lt-mul_of_pos_right, lt_of_mul-lt-mul_right, add-mul, Bool, true, false, ◌&&◌, ℤ, pos, negsuc, T, leb, ltb, eqb, ltb→lt, leb→le, pow-add, pow_pos, Float}
use Rattle.std.specs.Float.{nan, Format, binary32, binary64}
use native.Mathlib.Nat.{eq_of_mul-eq-mul_right}
use mathlib.Core.Bool.{beq}
use lib.Pow.{pow-lt}
use lib.Ieee.{inf, fin, prec, emax, low, up, down, fits}
use lib.Ieee.Digits.{back}
use lib.Ieee.Fits.{down_pos, and_l, and_r}
use Rattle.theory_nearest.specs.Nearest.{over, under, signed, Smaller}
use Rattle.rounding.proofs.Pack.{pow_le_back, of_value}

-- the first magnitude past the format's, in units
abbrev pub end_of : Format → ℕ
end_of f = 2 ^ (low f + suc (emax f))

-- z is Z units in size
abbrev pub Mag : Format → Float → ℕ → Type 0
Mag f z Z = over f z * 2 ^ low f ≡ Z * under z

pub under_pos : (z : Float) → 0 < under z
under_pos nan = zero-lt-suc 0
under_pos (inf s) = zero-lt-suc 0
under_pos (fin s m e) = down_pos e

pub inf_mag : (f : Format) (s : Bool) → Mag f (inf s) (end_of f)
inf_mag f s = mul_comm (2 ^ suc (emax f)) (2 ^ low f) ∙ sym (pow-add 2 (low f) (suc (emax f))) ∙ sym (mul-one (end_of f))

pub zero_mag : (f : Format) (s : Bool) (e : ℤ) → Mag f (fin s 0 e) 0
zero_mag f s e = ap (λ (x : ℕ). x * 2 ^ low f) (zero-mul (up e)) ∙ zero-mul (2 ^ low f) ∙ sym (zero-mul (down e))

pub beq_same : (t s : Bool) → T (beq t s) → t ≡ s
beq_same true true h = refl
beq_same true false h = absurd h
beq_same false true h = absurd h
beq_same false false h = refl

pub beq_refl : (s : Bool) → T (beq s s)
beq_refl true = tt
beq_refl false = tt

-- ---- a magnitude is m * 2 ^ i units, with m of no more digits than the format keeps
pub record UnitSize (f : Format) (z : Float) : Type 0 where
  pub m : ℕ
  pub i : ℕ
  pub short : m < 2 ^ prec f
  pub inside : m * 2 ^ i ≤ end_of f
  pub mag : Mag f z (m * 2 ^ i)

one_short : (f : Format) → 1 < 2 ^ prec f
one_short binary32 = pow-lt {i = 0} {j = 24} (zero-lt-suc 23)
one_short binary64 = pow-lt {i = 0} {j = 53} (zero-lt-suc 52)

pub finite_size : (f : Format) (s : Bool) (m : ℕ) (e : ℤ) → T (fits f (fin s m e)) → (z : UnitSize f (fin s m e)) × (z.m * 2 ^ z.i < end_of f)
unfolding fits
finite_size f s zero e t = (record { m = 0; i = 0; short = pow_pos (prec f); inside = le_of_lt (pow_pos (low f + suc (emax f))); mag = zero_mag f s e }, pow_pos (low f + suc (emax f)))
finite_size f s (suc m) e t =
    let A = eqb (suc m % 2) 1 in
    let B = ltb (suc m) (2 ^ prec f) in
    let C = leb (down e) (2 ^ low f) in
    let D = ltb (suc m * up e) (2 ^ suc (emax f) * down e) in
    let l = ltb→lt (suc m * up e) (2 ^ suc (emax f) * down e) (and_r (A && B && C) D t) in
    let u = at e (leb→le (down e) (2 ^ low f) (and_r (A && B) C (and_l (A && B && C) D t))) in
    let w : suc m * 2 ^ u.0 < end_of f =
    lt_of_mul-lt-mul_right (down e)
    (lt_of_le_of_lt (le_of_eq (sym u.1))
    (lt_of_lt_of_le (mul-lt-mul_of_pos_right l (pow_pos (low f)))
    (le_of_eq (mul_right_comm (2 ^ suc (emax f)) (down e) (2 ^ low f) ∙ ap (λ (x : ℕ). x * down e) (mul_comm (2 ^ suc (emax f)) (2 ^ low f) ∙ sym (pow-add 2 (low f) (suc (emax f)))))))) in
    (record { m = suc m; i = u.0; short = ltb→lt (suc m) (2 ^ prec f) (and_r A B (and_l (A && B) C (and_l (A && B && C) D t))); inside = le_of_lt w; mag = u.1 }, w)
  where
    at : (e : ℤ) → down e ≤ 2 ^ low f → (j : ℕ) × (suc m * up e * 2 ^ low f ≡ suc m * 2 ^ j * down e)
    at (pos a) l = (a + low f, mul_assoc (suc m) (2 ^ a) (2 ^ low f) ∙ ap (λ (x : ℕ). suc m * x) (sym (pow-add 2 a (low f))) ∙ sym (mul-one (suc m * 2 ^ (a + low f))))
    at (negsuc a) l = (
      low f - suc a,
      ap (λ (x : ℕ). x * 2 ^ low f) (mul-one (suc m))
          ∙ ap (λ (x : ℕ). suc m * x) (ap (λ (x : ℕ). 2 ^ x) (sym (back (low f) (suc a) (pow_le_back (suc a) (low f) l))) ∙ pow-add 2 (low f - suc a) (suc a))
          ∙ sym (mul_assoc (suc m) (2 ^ (low f - suc a)) (2 ^ suc a)),
    )

pub unit_size : (f : Format) (s : Bool) (z : Float) → T (fits f z) → T (signed s z) → UnitSize f z
unit_size f s nan t p = absurd p
unit_size f s (inf u) t p = record { m = 1; i = low f + suc (emax f); short = one_short f; inside = le_of_eq (one-mul (end_of f)); mag = inf_mag f u ∙ ap (λ (x : ℕ). x * 1) (sym (one-mul (end_of f))) }
unit_size f s (fin u m e) t p = (finite_size f u m e t).0

-- ---- the order of two values is that of their magnitudes
module _ (f : Format) (y z : Float) (Y Z : ℕ) (hy : Mag f y Y) (hz : Mag f z Z) where
  cross_y : over f y * under z * 2 ^ low f ≡ Y * (under y * under z)
  cross_y = mul_right_comm (over f y) (under z) (2 ^ low f) ∙ ap (λ (x : ℕ). x * under z) hy ∙ mul_assoc Y (under y) (under z)

  cross_z : over f z * under y * 2 ^ low f ≡ Z * (under y * under z)
  cross_z = mul_right_comm (over f z) (under y) (2 ^ low f) ∙ ap (λ (x : ℕ). x * under y) hz ∙ mul_assoc Z (under z) (under y) ∙ ap (λ (x : ℕ). Z * x) (mul_comm (under z) (under y))

  both_pos : 0 < under y * under z
  both_pos = mul-pos (under_pos y) (under_pos z)

  pub smaller→lt : Smaller f y z → Y < Z
  smaller→lt h = lt_of_mul-lt-mul_right (under y * under z) (lt_of_le_of_lt (le_of_eq (sym cross_y)) (lt_of_lt_of_le (mul-lt-mul_of_pos_right h (pow_pos (low f))) (le_of_eq cross_z)))

  pub lt→smaller : Y < Z → Smaller f y z
  lt→smaller h = lt_of_mul-lt-mul_right (2 ^ low f) (lt_of_le_of_lt (le_of_eq cross_y) (lt_of_lt_of_le (mul-lt-mul_of_pos_right h both_pos) (le_of_eq (sym cross_z))))

  pub same→same : Y ≡ Z → over f y * under z ≡ over f z * under y
  same→same e = eq_of_mul-eq-mul_right (2 ^ low f) (pow_pos (low f)) _ _ (cross_y ∙ ap (λ (x : ℕ). x * (under y * under z)) e ∙ sym cross_z)

  pub same_size : over f y * under z ≡ over f z * under y → Y ≡ Z
  same_size e = eq_of_mul-eq-mul_right (under y * under z) both_pos _ _ (sym cross_y ∙ ap (λ (x : ℕ). x * 2 ^ low f) e ∙ cross_z)

  pub sum_mag : (over f y * under z + over f z * under y) * 2 ^ low f ≡ (Y + Z) * (under y * under z)
  sum_mag = add-mul (over f y * under z) (over f z * under y) (2 ^ low f) ∙ ap (λ (x : ℕ). x + over f z * under y * 2 ^ low f) cross_y ∙ ap (λ (x : ℕ). Y * (under y * under z) + x) cross_z ∙ sym (add-mul Y Z (under y * under z))

-- ---- a sign and a magnitude make one value
pub inf_only : (f : Format) (u : Bool) (Y : ℕ) → Mag f (inf u) Y → Y ≡ end_of f
inf_only f u Y h = sym (mul-one Y) ∙ sym h ∙ inf_mag f u ∙ mul-one (end_of f)

inf_no_fin : (f : Format) (s u : Bool) (m : ℕ) (e : ℤ) (Y : ℕ) → T (fits f (fin u m e)) → Mag f (inf s) Y → Mag f (fin u m e) Y → ⊥
inf_no_fin f s u m e Y t h k =
    let w = finite_size f u m e t in
    let v : w.0.m * 2 ^ w.0.i ≡ Y = eq_of_mul-eq-mul_right (down e) (down_pos e) _ _ (sym w.0.mag ∙ k) in
    lt_irrefl (end_of f) (lt_of_le_of_lt (le_of_eq (sym (inf_only f s Y h) ∙ sym v)) w.1)

pub one_value : (f : Format) (s : Bool) (y z : Float) (Y : ℕ) → T (fits f y) → T (fits f z) → T (signed s y) → T (signed s z) → Mag f y Y → Mag f z Y → y ≡ z
one_value f s nan z Y ty tz py pz hy hz = absurd py
one_value f s (inf t) nan Y ty tz py pz hy hz = absurd pz
one_value f s (inf t) (inf u) Y ty tz py pz hy hz = ap inf (beq_same t s py ∙ sym (beq_same u s pz))
one_value f s (inf t) (fin u m e) Y ty tz py pz hy hz = absurd (inf_no_fin f t u m e Y tz hy hz)
one_value f s (fin t m e) nan Y ty tz py pz hy hz = absurd pz
one_value f s (fin t m e) (inf u) Y ty tz py pz hy hz = absurd (inf_no_fin f u t m e Y ty hz hy)
one_value f s (fin t m e) (fin u n d) Y ty tz py pz hy hz = sym (of_value f s Y (fin t m e) ty (beq_same t s py, hy)) ∙ of_value f s Y (fin u n d) tz (beq_same u s pz, hz)
