-- A value at a format with fewer digits. Assumes nothing.
use Rattle.std.proofs.Common.{◌≡◌, refl, sym, ap, ◌∙◌, subst, ◌⊎◌, inl, inr, ℕ, zero, suc, ◌+◌, ◌-◌, ◌*◌, ◌/◌, ◌%◌, ◌^◌, ◌≤◌, ◌<◌, min, le_trans, le_of_eq, le_of_lt, le-add_left, add-zero, lt_of_lt_of_le, lt_of_le_of_lt, mul-one, mul_comm, mul_assoc, mul_right_comm, mul-pos, arith, Bool, true, false, not, cond, T, leb, lit≤, ltb-false, leb-true, leb-false, pow-add, pow_pos, pow_mono, shl_lt, Float}
use Rattle.std.specs.Float.{Format, binary32, binary64}
use native.Mathlib.Nat.{zero-min}
use lib.Ieee.Bits.{of_bits-to_bits, to_bits-lt, nan_bits_above, nan_bits_is, is_false}
use lib.Ieee.{inf, to_bits, fits, is_nan, prec, low, units, round, hid, ones, top, of_bits, of_fields}
use lib.Ieee.Exact.{HasValue}
use lib.Ieee.Nearest.{closest}
use lib.Ieee.Scale.{round_same}
use Rattle.rounding.specs.Narrow.{narrow_of}
use Rattle.rounding.specs.Inner.{pattern}
use Rattle.rounding.proofs.Quotients.{closest_zero, closest_le, closest_ge}
use Rattle.rounding.proofs.Pack.{pack, of_inf}
use Rattle.rounding.proofs.Rounding.{low_field, high_field, convert_is, round_normal, round_low}

-- ---- q * 2 ^ k / 2 ^ L at the format f, where it is q * 2 ^ K / 2 ^ d units
same_value : (q k d l L K : ℕ) → k + d + l ≡ L + K → q * 2 ^ k * (2 ^ d * 2 ^ l) ≡ q * 2 ^ K * 2 ^ L
same_value q k d l L K e =
    mul_assoc q (2 ^ k) (2 ^ d * 2 ^ l)
    ∙ ap (λ (x : ℕ). q * x) (sym (mul_assoc (2 ^ k) (2 ^ d) (2 ^ l)) ∙ ap (λ (x : ℕ). x * 2 ^ l) (sym (pow-add 2 k d)) ∙ sym (pow-add 2 (k + d) l) ∙ ap (λ (x : ℕ). 2 ^ x) e ∙ pow-add 2 L K ∙ mul_comm (2 ^ L) (2 ^ K))
    ∙ sym (mul_assoc q (2 ^ K) (2 ^ L))

narrow_law : (f : Format) (s : Bool) (v : Float) (q k d K L : ℕ) → HasValue v s (q * 2 ^ k) (2 ^ L) → k + d + low f ≡ L + K
    → round f s (q * 2 ^ K) (2 ^ d * 2 ^ low f) ≡ units f s (closest q (2 ^ d)) K → closest q (2 ^ d) ≤ 2 ^ prec f → (K ≡ 0) ⊎ (hid f ≤ closest q (2 ^ d))
    → of_bits f (cond s (top f) 0 + pattern f (closest q (2 ^ d)) K) ≡ narrow_of f v
narrow_law f s v q k d K L h e r hi lo =
    pack f s (closest q (2 ^ d)) K hi lo
    ∙ sym (convert_is f v s (q * 2 ^ k) (2 ^ L) (pow_pos L) h ∙ round_same f s (q * 2 ^ k) (2 ^ L) (q * 2 ^ K) (2 ^ d * 2 ^ low f) (pow_pos L) (mul-pos (pow_pos d) (pow_pos (low f))) (same_value q k d (low f) L K e) ∙ r)

narrow_normal : (f : Format) (s : Bool) (v : Float) (q k d K L : ℕ) → HasValue v s (q * 2 ^ k) (2 ^ L) → k + d + low f ≡ L + K → 2 ^ (prec f - 1 + d) ≤ q → q < 2 ^ (prec f + d)
    → of_bits f (cond s (top f) 0 + pattern f (closest q (2 ^ d)) K) ≡ narrow_of f v
narrow_normal f s v q k d K L h e lo hi = narrow_law f s v q k d K L h e (round_normal f s q d K lo hi) (closest_le q d (prec f) hi) (inr (closest_ge q d (prec f - 1) lo))

narrow_low : (f : Format) (s : Bool) (v : Float) (q k d L : ℕ) → HasValue v s (q * 2 ^ k) (2 ^ L) → k + d + low f ≡ L → q < 2 ^ (prec f + d)
    → of_bits f (cond s (top f) 0 + pattern f (closest q (2 ^ d)) 0) ≡ narrow_of f v
narrow_low f s v q k d L h e hi = narrow_law f s v q k d 0 L h (e ∙ sym (add-zero L)) (round_low f s q d hi) (closest_le q d (prec f) hi) (inl refl)

-- less than half of the format's smallest value
narrow_tiny : (f : Format) (s : Bool) (v : Float) (a L : ℕ) → HasValue v s a (2 ^ L) → low f ≤ L → a * 2 < 2 ^ (L - low f) → of_bits f (cond s (top f) 0 + 0) ≡ narrow_of f v
narrow_tiny f s v a L h l t =
    let z : closest a (2 ^ (L - low f)) ≡ 0 = closest_zero a (2 ^ (L - low f)) (pow_pos (L - low f)) (le_of_lt t) in
    let e : 0 + (L - low f) + low f ≡ L = back (low f) l in
    let u : a < 2 ^ (prec f + (L - low f)) = lt_of_lt_of_le half (pow_mono {i = L - low f} {j = prec f + (L - low f)} (le-add_left (L - low f) (prec f))) in
    sym (ap (λ (x : ℕ). of_bits f (cond s (top f) 0 + x)) (ap (λ (x : ℕ). min x (ones f * hid f)) (ap (λ (x : ℕ). 0 * hid f + x) z ∙ nought (hid f)) ∙ zero-min (ones f * hid f)))
    ∙ narrow_low f s v a 0 (L - low f) L (subst (λ (x : ℕ). HasValue v s x (2 ^ L)) (sym (mul-one a)) h) e u
  where
    back : (b : ℕ) → b ≤ L → 0 + (L - b) + b ≡ L
    back b l = omega arith

    half : a < 2 ^ (L - low f)
    half = omega arith

    nought : (h : ℕ) → 0 * h + 0 ≡ 0
    nought h = omega arith

-- ---- from binary64 to binary32, by the fields
abbrev pub Narrowed : ℕ → ℕ → ℕ → Type 0
Narrowed x t r = (s : Bool) → of_bits binary32 (cond s (2 ^ 31) 0 + r) ≡ narrow_of binary32 (of_fields binary64 s x t)

value : (s : Bool) (x t : ℕ) → 0 < x → x < 2047 → HasValue (of_fields binary64 s x t) s ((2 ^ 52 + t) * 2 ^ (x - 1)) (2 ^ 1074)
value s x t h l =
    let i : suc (x - 1) ≡ x = omega arith in
    subst (λ (z : ℕ). HasValue (of_fields binary64 s z t) s ((2 ^ 52 + t) * 2 ^ (x - 1)) (2 ^ 1074)) i (high_field binary64 s (x - 1) t (omega arith))

pub fields_tiny : (x t : ℕ) → x < 873 → t < 2 ^ 52 → Narrowed x t 0
fields_tiny zero t h l s = narrow_tiny binary32 s (of_fields binary64 s 0 t) (t * 2 ^ 0) 1074 (low_field binary64 s t) (lit≤ tt) (lt_of_lt_of_le (bound l) (lit≤ {m = 2 ^ 54} tt))
  where
    bound : t < 2 ^ 52 → t * 2 ^ 0 * 2 < 2 ^ 54
    bound l = omega (arith, mul-one t)
fields_tiny (suc x) t h l s =
    narrow_tiny binary32 s (of_fields binary64 s (suc x) t) ((2 ^ 52 + t) * 2 ^ x) 1074 (high_field binary64 s x t (omega arith)) (lit≤ tt)
    (lt_of_le_of_lt (le_of_eq (mul_right_comm (2 ^ 52 + t) (2 ^ x) 2)) (lt_of_lt_of_le (shl_lt 54 x (omega arith)) (pow_mono {i = 54 + x} {j = 925} (omega arith))))

pub fields_subnormal : (x t r : ℕ) → 873 ≤ x → x < 897 → t < 2 ^ 52 → r ≡ closest (2 ^ 52 + t) (2 ^ (926 - x)) → Narrowed x t r × (r ≤ 2 ^ 24)
fields_subnormal x t r a b l e =
    let d = 926 - x in
    let q = 2 ^ 52 + t in
    let g : q < 2 ^ 53 = omega arith in
    let hi : q < 2 ^ (24 + d) = lt_of_lt_of_le g (pow_mono {i = 53} {j = 24 + d} (omega arith)) in
    let m : closest q (2 ^ d) ≤ 2 ^ 24 = closest_le q d 24 hi in (
      λ s.
          ap (λ (z : ℕ). of_bits binary32 (cond s (2 ^ 31) 0 + z)) (e ∙ plain (closest q (2 ^ d)) m)
          ∙ narrow_low binary32 s (of_fields binary64 s x t) q (x - 1) d 1074 (value s x t (omega arith) (omega arith)) (omega arith) hi,
      le_trans (le_of_eq e) m,
    )
  where
    plain : (c : ℕ) → c ≤ 2 ^ 24 → c ≡ min (0 * 2 ^ 23 + c) (255 * 2 ^ 23)
    plain c h = omega arith

pub fields_normal : (x t r : ℕ) → 897 ≤ x → x < 2047 → t < 2 ^ 52 → r ≡ closest (2 ^ 52 + t) (2 ^ 29) → Narrowed x t (min ((x - 897) * 2 ^ 23 + r) (255 * 2 ^ 23)) × (r ≤ 2 ^ 24)
fields_normal x t r a b l e =
    let q = 2 ^ 52 + t in
    let hi : q < 2 ^ (24 + 29) = omega arith in
    let lo : 2 ^ (23 + 29) ≤ q = omega arith in (
      λ s.
          ap (λ (z : ℕ). of_bits binary32 (cond s (2 ^ 31) 0 + min ((x - 897) * 2 ^ 23 + z) (255 * 2 ^ 23))) e
          ∙ narrow_normal binary32 s (of_fields binary64 s x t) q (x - 1) 29 (x - 897) 1074 (value s x t (omega arith) b) (omega arith) lo hi,
      le_trans (le_of_eq e) (closest_le q 29 24 hi),
    )

-- ---- of a whole pattern
as_fields : (n : ℕ) (s : Bool) → leb (2 ^ 63) n ≡ s → of_bits binary64 n ≡ of_fields binary64 s (n % 2 ^ 63 / 2 ^ 52) (n % 2 ^ 63 % 2 ^ 52)
unfolding of_bits
as_fields n s e = ap (λ (b : Bool). of_fields binary64 b (n % 2 ^ 63 / 2 ^ 52) (n % 2 ^ 52)) e ∙ ap (of_fields binary64 s (n % 2 ^ 63 / 2 ^ 52)) (sym (inner n))
  where
    inner : (n : ℕ) → n % 2 ^ 63 % 2 ^ 52 ≡ n % 2 ^ 52
    inner n = omega arith

-- r, with either sign, are the bits of x narrowed
abbrev pub Bits : Float → ℕ → Type 0
Bits x r = (s : Bool) → leb (2 ^ 63) (to_bits binary64 x) ≡ s → of_bits binary32 (cond s (2 ^ 31) 0 + r) ≡ narrow_of binary32 x

pub of_finite : (x : Float) (r : ℕ) → T (fits binary64 x) → Narrowed (to_bits binary64 x % 2 ^ 63 / 2 ^ 52) (to_bits binary64 x % 2 ^ 63 % 2 ^ 52) r → Bits x r
of_finite x r t n s e = n s ∙ ap (narrow_of binary32) (sym (as_fields (to_bits binary64 x) s e) ∙ of_bits-to_bits binary64 x t)

is_inf : (x : Float) → T (fits binary64 x) → T (not (is_nan x)) → 2047 * 2 ^ 52 ≤ to_bits binary64 x % 2 ^ 63 → (s : Bool) → leb (2 ^ 63) (to_bits binary64 x) ≡ s → x ≡ inf s
is_inf x t k l s e =
    let n = to_bits binary64 x in
    let top : n % 2 ^ 63 ≤ 2047 * 2 ^ 52 = ltb-false (2047 * 2 ^ 52) (n % 2 ^ 63) (sym (nan_bits_above binary64 n) ∙ nan_bits_is binary64 n ∙ ap is_nan (of_bits-to_bits binary64 x t) ∙ is_false (is_nan x) k) in
    sym (of_bits-to_bits binary64 x t) ∙ ap (of_bits binary64) (go n s e top l (to_bits-lt binary64 x t)) ∙ of_inf binary64 s
  where
    go : (n : ℕ) (s : Bool) → leb (2 ^ 63) n ≡ s → n % 2 ^ 63 ≤ 2047 * 2 ^ 52 → 2047 * 2 ^ 52 ≤ n % 2 ^ 63 → n < 2 * 2 ^ 63 → n ≡ cond s (2 ^ 63) 0 + 2047 * 2 ^ 52
    go n true e a b c = let g = leb-true (2 ^ 63) n e in omega arith
    go n false e a b c = let g = leb-false (2 ^ 63) n e in omega arith

pub of_infinite : (x : Float) → T (fits binary64 x) → T (not (is_nan x)) → 2047 * 2 ^ 52 ≤ to_bits binary64 x % 2 ^ 63 → Bits x (255 * 2 ^ 23)
unfolding narrow_of
of_infinite x t k l s e = of_inf binary32 s ∙ sym (ap (narrow_of binary32) (is_inf x t k l s e))
