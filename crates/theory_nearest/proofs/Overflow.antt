-- Where the nearest value is an infinity: from half way between the largest finite value and 2 ^ (emax + 1) on, and not before. Assumes nothing.
use Rattle.std.proofs.Common.{◌≡◌, sym, ap, ◌∙◌, inr, Bool, ℕ, suc, ◌+◌, ◌-◌, ◌*◌, ◌^◌, ◌≤◌, ◌<◌, le_trans, le_of_eq, lt_of_lt_of_le, mul_comm, mul_right_comm, mul-pos, mul-le-mul_right, mul-lt-mul_of_pos_right, add-mul, suc-mul, pow-suc, sub-add_cancel, arith, T, pow-add, pow_pos, pow_mono, Float}
use Rattle.std.specs.Float.{nan, Format, binary32, binary64}
use lib.Pow.{pow-lt}
use lib.Ieee.{inf, fin, prec, emax, low, hid, units}
use lib.Ieee.Fits.{inf-fits}
use lib.Ieee.Scale.{finite}
use Rattle.float.proofs.Fields.{prec_pos, hid_twice, suc_pred}
use Rattle.theory_nearest.specs.Nearest.{Nearest, last_digit}
use Rattle.theory_nearest.specs.Ieee754.{overflow_from}
use Rattle.theory_nearest.proofs.Magnitude.{finite_size, end_of, inf_mag, beq_same, beq_refl}
use Rattle.theory_nearest.proofs.Grid.{next_down, inf_digit}
use Rattle.theory_nearest.proofs.Kept.{rounded}
use Rattle.theory_nearest.proofs.Cases.{against}

short : (f : Format) → prec f ≤ emax f
short binary32 = omega arith
short binary64 = omega arith

module _ (f : Format) where
  -- the largest values are 2 ^ top-place units apart
  abbrev top_place : ℕ
  top_place = low f + suc (emax f) - prec f

  -- overflow begins half of that before the end
  abbrev half : ℕ
  half = 2 ^ (emax f - prec f) * 2 ^ low f

  gap_is : 2 ^ top_place ≡ half + half
  gap_is = ap (λ (x : ℕ). 2 ^ x) (place (short f)) ∙ pow-suc 2 (emax f - prec f + low f) ∙ ap (λ (x : ℕ). x * 2) (pow-add 2 (emax f - prec f) (low f)) ∙ double half
    where
      place : prec f ≤ emax f → top_place ≡ suc (emax f - prec f + low f)
      place l = omega arith

      double : (a : ℕ) → a * 2 ≡ a + a
      double a = omega arith

  end_is : 2 ^ prec f * 2 ^ top_place ≡ end_of f
  end_is = sym (pow-add 2 (prec f) top_place) ∙ ap (λ (x : ℕ). 2 ^ x) (place (short f))
    where
      place : prec f ≤ emax f → prec f + top_place ≡ low f + suc (emax f)
      place l = omega arith

  from_is : overflow_from f * 2 ^ low f + half ≡ end_of f
  from_is =
      sym (add-mul (overflow_from f) (2 ^ (emax f - prec f)) (2 ^ low f))
      ∙ ap (λ (x : ℕ). x * 2 ^ low f) (sub-add_cancel (pow_mono {i = emax f - prec f} {j = suc (emax f)} (omega arith)))
      ∙ mul_comm (2 ^ suc (emax f)) (2 ^ low f)
      ∙ sym (pow-add 2 (low f) (suc (emax f)))

  some_half : 0 < half
  some_half = mul-pos (pow_pos (emax f - prec f)) (pow_pos (low f))

  module _ (d : ℕ) where
    from_times : overflow_from f * d * 2 ^ low f + half * d ≡ end_of f * d
    from_times = ap (λ (x : ℕ). x + half * d) (mul_right_comm (overflow_from f) d (2 ^ low f)) ∙ sym (add-mul (overflow_from f * 2 ^ low f) half d) ∙ ap (λ (x : ℕ). x * d) from_is

    gap_times : (W : ℕ) → (W + 2 ^ top_place) * d ≡ W * d + (half * d + half * d)
    gap_times W = add-mul W (2 ^ top_place) d ∙ ap (λ (x : ℕ). W * d + x) (ap (λ (x : ℕ). x * d) gap_is ∙ add-mul half half d)

-- ---- from there on
pub to_infinity : (f : Format) (s : Bool) (n d : ℕ) → 0 < d → (w : Float) → Nearest f s 1 n d w → overflow_from f * d ≤ n → w ≡ inf s
to_infinity f s n d D nan h l = absurd h.sign
to_infinity f s n d D (inf u) h l = ap inf (beq_same u s h.sign)
to_infinity f s n d D (fin u m e) h l =
    let v = finite_size f u m e h.held in
    let W = v.0.m * 2 ^ v.0.i in
    let E = end_of f in
    let p = prec f in
    let g = against f s n d D (fin u m e) h (inf s) W E (inf-fits f s) (beq_refl s) v.0.mag (inf_mag f s) in
    let a : W + 2 ^ top_place f ≤ E = le_trans (next_down p v.0.m v.0.i (2 ^ p) (top_place f) (prec_pos f) v.0.short (inr (pow-lt {i = p - 1} {j = p} (le_of_eq (suc_pred p (prec_pos f))))) (lt_of_lt_of_le v.1 (le_of_eq (sym (end_is f))))) (le_of_eq (end_is f)) in
    let b : W * d + (half f * d + half f * d) ≤ E * d = le_trans (le_of_eq (sym (gap_times f d W))) (mul-le-mul_right d a) in
    let c = from_times f d in
    let o : overflow_from f * d * 2 ^ low f ≤ n * 2 ^ low f = mul-le-mul_right (2 ^ low f) l in
    let q = g.below v.1 in
    let t : n * 2 ^ low f * 2 ≡ W * d + E * d = omega arith in
    absurd (odd_inf (g.tie (λ x. apart W E v.1 x) t).1)
  where
    odd_inf : last_digit f (inf s) ≡ 1 → ⊥
    odd_inf x = let y = inf_digit f s in omega arith

    apart : (a b : ℕ) → a < b → a ≡ b → ⊥
    apart a b l x = omega arith

-- ---- and not before: the largest finite value is nearer
pub to_finite : (f : Format) (s : Bool) (n d : ℕ) → 0 < d → (w : Float) → Nearest f s 1 n d w → n < overflow_from f * d → T (finite w)
to_finite f s n d D nan h l = absurd h.sign
to_finite f s n d D (fin u m e) h l = tt
to_finite f s n d D (inf u) h l =
    let r = 2 ^ prec f - 1 in
    let Z = r * 2 ^ top_place f in
    let E = end_of f in
    let full : Z + 2 ^ top_place f ≡ E = largest in
    let v = rounded f s r (top_place f) (omega arith) (inr digits) in
    let g = against f s n d D (inf u) h (units f s r (top_place f)) E Z v.held v.sign (inf_mag f u) (v.inner (omega arith)) in
    let b : Z * d + (half f * d + half f * d) ≡ E * d = sym (gap_times f d Z) ∙ ap (λ (x : ℕ). x * d) full in
    let c = from_times f d in
    let o : n * 2 ^ low f < overflow_from f * d * 2 ^ low f = mul-lt-mul_of_pos_right l (pow_pos (low f)) in
    let k = pow_pos (top_place f) in
    let q = g.above (omega arith) in
    absurd (omega arith)
  where
    digits : hid f ≤ 2 ^ prec f - 1
    digits = let a = hid_twice f in let b = pow_pos (prec f - 1) in omega arith

    largest : (2 ^ prec f - 1) * 2 ^ top_place f + 2 ^ top_place f ≡ end_of f
    largest = sym (suc-mul (2 ^ prec f - 1) (2 ^ top_place f)) ∙ ap (λ (x : ℕ). x * 2 ^ top_place f) (suc_pred (2 ^ prec f) (pow_pos (prec f))) ∙ end_is f
