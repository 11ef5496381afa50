-- Rounding a number of more digits than the format keeps, and a value at another format. Assumes nothing.
use Rattle.std.proofs.Common.{◌≡◌, sym, ap, ◌∙◌, ℕ, suc, ◌+◌, ◌-◌, ◌*◌, ◌/◌, ◌^◌, ◌≤◌, ◌<◌, le_trans, le_of_eq, lt_of_lt_of_le, lt_of_le_of_lt, mul-one, mul_comm, mul_assoc, mul_left_comm, mul_right_comm, mul-le-mul_right, mul-lt-mul_of_pos_right, mul-pos, le-div_iff_mul-le, div-lt_iff_lt-mul, arith, Bool, true, false, cond, T, eqb, eqb→eq, pow-add, pow_pos, Float}
use Rattle.std.specs.Float.{nan, Format}
use lib.Ieee.{inf, fin, prec, low, up, down, size, odd, units, round, hid, ones, of_fields}
use lib.Ieee.Fits.{down_pos, core, round_is}
use lib.Ieee.Exact.{HasValue, odd_sign}
use lib.Ieee.Nearest.{closest, closest_same, div_same}
use lib.Ieee.Scale.{round_same}
use Rattle.rounding.specs.Narrow.{narrow_of}
use Rattle.float.proofs.Fields.{prec_pos}
use Rattle.rounding.proofs.Pack.{drops, drops_none}

-- ---- the value that a pattern's fields stand for
pub low_field : (f : Format) (s : Bool) (t : ℕ) → HasValue (of_fields f s 0 t) s (t * 2 ^ 0) (2 ^ low f)
unfolding of_fields
low_field f s t = odd_sign (prec f) s t 0 (low f)

pub high_field : (f : Format) (s : Bool) (x t : ℕ) → suc x < ones f → HasValue (of_fields f s (suc x) t) s ((hid f + t) * 2 ^ x) (2 ^ low f)
unfolding of_fields
high_field f s x t h = go (eqb (suc x) (ones f)) (λ e. lt_ne (suc x) (ones f) h (eqb→eq (suc x) (ones f) e))
  where
    lt_ne : (a b : ℕ) → a < b → a ≡ b → ⊥
    lt_ne a b l e = omega arith

    go : (b : Bool) → (T b → ⊥) → HasValue (cond b (cond (eqb t 0) (inf s) nan) (odd (prec f) s (hid f + t) x (low f))) s ((hid f + t) * 2 ^ x) (2 ^ low f)
    go true n = absurd (n tt)
    go false n = odd_sign (prec f) s (hid f + t) x (low f)

pub convert_is : (f : Format) (x : Float) (s : Bool) (a c : ℕ) → 0 < c → HasValue x s a c → narrow_of f x ≡ round f s a c
unfolding narrow_of
convert_is f nan s a c C h = absurd h
convert_is f (inf u) s a c C h = absurd h
convert_is f (fin u m e) s a c C h = ap (λ (v : Bool). round f v (m * up e) (down e)) h.0 ∙ round_same f s (m * up e) (down e) a c (down_pos e) C h.1

-- ---- q / 2 ^ d, times 2 ^ K, in units
pub round_units : (f : Format) (s : Bool) (a c K : ℕ) → size (a * 2 ^ low f / c) - prec f ≡ K → round f s a c ≡ units f s (closest (a * 2 ^ low f) (c * 2 ^ K)) K
round_units f s a c K e = round_is f s a c ∙ ap (λ (k : ℕ). core f s (a * 2 ^ low f) c k) e

in_units : (L q K d : ℕ) → 0 < L → q * 2 ^ K * L / (2 ^ d * L) ≡ q * 2 ^ K / 2 ^ d
in_units L q K d P = div_same (q * 2 ^ K * L) (2 ^ d * L) (q * 2 ^ K) (2 ^ d) (mul-pos (pow_pos d) P) (pow_pos d) (simp (mul_assoc, mul_comm, mul_left_comm))

kept_is : (L q K d : ℕ) → 0 < L → closest (q * 2 ^ K * L) (2 ^ d * L * 2 ^ K) ≡ closest q (2 ^ d)
kept_is L q K d P = closest_same (q * 2 ^ K * L) (2 ^ d * L * 2 ^ K) q (2 ^ d) (mul-pos (mul-pos (pow_pos d) P) (pow_pos K)) (pow_pos d) (simp (mul_assoc, mul_comm, mul_left_comm))

pub round_normal : (f : Format) (s : Bool) (q d K : ℕ) → 2 ^ (prec f - 1 + d) ≤ q → q < 2 ^ (prec f + d) → round f s (q * 2 ^ K) (2 ^ d * 2 ^ low f) ≡ units f s (closest q (2 ^ d)) K
round_normal f s q d K lo hi =
    let p = prec f in
    let n = q * 2 ^ K in
    let a : 2 ^ (p - 1 + K) ≤ n / 2 ^ d = (le-div_iff_mul-le (pow_pos d)).1 (le_trans (le_of_eq (ap (λ (x : ℕ). x * 2 ^ d) (pow-add 2 (p - 1) K) ∙ mul_right_comm (2 ^ (p - 1)) (2 ^ K) (2 ^ d) ∙ ap (λ (x : ℕ). x * 2 ^ K) (sym (pow-add 2 (p - 1) d)))) (mul-le-mul_right (2 ^ K) lo)) in
    let b : n / 2 ^ d < 2 ^ (p + K) = (div-lt_iff_lt-mul (pow_pos d)).1 (lt_of_lt_of_le (mul-lt-mul_of_pos_right hi (pow_pos K)) (le_of_eq (ap (λ (x : ℕ). x * 2 ^ K) (pow-add 2 p d) ∙ mul_right_comm (2 ^ p) (2 ^ d) (2 ^ K) ∙ ap (λ (x : ℕ). x * 2 ^ d) (sym (pow-add 2 p K))))) in
    round_units f s (q * 2 ^ K) (2 ^ d * 2 ^ low f) K (ap (λ (x : ℕ). size x - p) (in_units (2 ^ low f) q K d (pow_pos (low f))) ∙ drops (n / 2 ^ d) p K (prec_pos f) a b)
    ∙ ap (λ (x : ℕ). units f s x K) (kept_is (2 ^ low f) q K d (pow_pos (low f)))

pub round_low : (f : Format) (s : Bool) (q d : ℕ) → q < 2 ^ (prec f + d) → round f s (q * 2 ^ 0) (2 ^ d * 2 ^ low f) ≡ units f s (closest q (2 ^ d)) 0
round_low f s q d hi =
    let p = prec f in
    let n = q * 2 ^ 0 in
    let b : n / 2 ^ d < 2 ^ p = (div-lt_iff_lt-mul (pow_pos d)).1 (lt_of_le_of_lt (le_of_eq (mul-one q)) (lt_of_lt_of_le hi (le_of_eq (pow-add 2 p d)))) in
    round_units f s n (2 ^ d * 2 ^ low f) 0 (ap (λ (x : ℕ). size x - p) (in_units (2 ^ low f) q 0 d (pow_pos (low f))) ∙ drops_none (n / 2 ^ d) p b)
    ∙ ap (λ (x : ℕ). units f s x 0) (kept_is (2 ^ low f) q 0 d (pow_pos (low f)))
