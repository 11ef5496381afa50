-- A float's magnitude times 32768, to the nearest whole number, by the float's fields. Assumes nothing.
use Rattle.std.proofs.Common.{◌≡◌, refl, sym, ap, ◌∙◌, subst, Bool, true, false, cond, ℕ, zero, suc, ◌+◌, ◌-◌, ◌*◌, ◌/◌, ◌%◌, ◌^◌, ◌≤◌, ◌<◌, min, le_trans, le-add_right, le_of_eq, lt_of_lt_of_le, lt_of_le_of_lt, le_of_lt, mul-one, mul_comm, mul_assoc, mul_right_comm, mul-le-mul_left, mul-le-mul_right, mul-pos, arith, eqb-true, ne_eqb, T, leb, lit<, lit≤, eqb, ℤ, pos, negsuc, pow-add, pow_pos, pow_mono, shl_lt, Float, w16, to_z, of_z}
use Rattle.std.specs.Float.{nan, binary32}
use native.Mathlib.Nat.{min-eq_left, min-eq_right}
use borrow.Author.Tests.{eqb-false}
use lib.Arith.{lt_of_le-ne}
use lib.Signed.{mag}
use lib.Ieee.{inf, fin, up, down, fits, of_bits, to_bits, of_fields, round, of_int, div, unlike}
use lib.Ieee.Bits.{of_bits-to_bits}
use lib.Ieee.Exact.{HasValue, round_exact}
use lib.Ieee.Fits.{down_pos}
use lib.Ieee.Nearest.{closest, closest_same, closest_mono}
use lib.Ieee.Scale.{round_same}
use Rattle.rounding.proofs.Quotients.{closest_zero, closest_le}
use Rattle.rounding.proofs.Rounding.{low_field, high_field}
use Rattle.wav_samples.specs.Sample.{sample_in, steps_of, negative, held_of, sample_out}
use Rattle.wav_samples.proofs.Signed.{came, held_small}

-- ---- of a value a / c
module _ (s : Bool) (a c : ℕ) (C : 0 < c) where
  pub value_steps : (v : Float) → HasValue v s a c → steps_of v ≡ min (closest (a * 32768) c) 32768
  unfolding steps_of
  value_steps nan h = absurd h
  value_steps (inf t) h = absurd h
  value_steps (fin t m e) h =
      ap (λ (n : ℕ). min n 32768)
      (closest_same (m * up e * 32768) (down e) (a * 32768) c (down_pos e) C
      (mul_right_comm (m * up e) 32768 c ∙ ap (λ (n : ℕ). n * 32768) h.1 ∙ mul_right_comm a (down e) 32768))

  pub value_sign : (v : Float) → HasValue v s a c → negative v ≡ s
  unfolding negative
  value_sign nan h = absurd h
  value_sign (inf t) h = absurd h
  value_sign (fin t m e) h = h.0

  -- at most a half of a step, and 1 at least
  pub no_steps : a * 32768 * 2 ≤ c → min (closest (a * 32768) c) 32768 ≡ 0
  no_steps h = ap (λ (n : ℕ). min n 32768) (closest_zero (a * 32768) c C h)

  pub all_steps : c ≤ a → min (closest (a * 32768) c) 32768 ≡ 32768
  all_steps h = min-eq_right (closest_mono 32768 1 (a * 32768) c (lit< tt) C (whole a c h))
    where
      whole : (a c : ℕ) → c ≤ a → 32768 * c ≤ a * 32768 * 1
      whole a c l = omega arith

-- ---- of a float with these fields
abbrev pub Steps : ℕ → ℕ → ℕ → Type 0
Steps field digits n = (s : Bool) → n ≡ steps_of (of_fields binary32 s field digits)

field_steps : (s : Bool) (x t : ℕ) → x < 254 → steps_of (of_fields binary32 s (suc x) t) ≡ min (closest ((2 ^ 23 + t) * 2 ^ x * 32768) (2 ^ 149)) 32768
field_steps s x t h = value_steps s ((2 ^ 23 + t) * 2 ^ x) (2 ^ 149) (pow_pos 149) (of_fields binary32 s (suc x) t) (high_field binary32 s x t (omega arith))

-- the largest field: NaN and the infinities
pub nan_steps : (field digits : ℕ) → field ≡ 255 → 0 < digits → Steps field digits 0
unfolding steps_of of_fields
nan_steps field digits e h s = rw e (at digits h)
  where
    at : (t : ℕ) → 0 < t → ◌≡◌ {A = ℕ} 0 (steps_of (of_fields binary32 s 255 t))
    at t h = rw (ne_eqb t 0 (λ e. omega arith))

pub inf_steps : (field digits : ℕ) → field ≡ 255 → digits ≤ 0 → Steps field digits 32768
unfolding steps_of of_fields
inf_steps field digits e h s = rw e (at digits h)
  where
    at : (t : ℕ) → t ≤ 0 → ◌≡◌ {A = ℕ} 32768 (steps_of (of_fields binary32 s 255 t))
    at zero h = refl
    at (suc t) h = absurd (omega arith)

-- 1 at least
pub large_steps : (field digits : ℕ) → (field ≡ 255 → ⊥) → field < 256 → 127 ≤ field → Steps field digits 32768
large_steps zero t n h l s = absurd (omega arith)
large_steps (suc x) t n h l s =
    sym
    (field_steps s x t (lt_of_le-ne (omega arith) (λ e. n (ap suc e)))
    ∙ all_steps s ((2 ^ 23 + t) * 2 ^ x) (2 ^ 149) (pow_pos 149) (le_trans (mul-le-mul_left (2 ^ 23) (pow_mono {i = 126} {j = x} (omega arith))) (mul-le-mul_right (2 ^ x) (le-add_right (2 ^ 23) t))))

-- less than half a step
pub small_steps : (field digits : ℕ) → field < 111 → digits < 2 ^ 23 → Steps field digits 0
small_steps zero t h l s =
    sym
    (value_steps s (t * 2 ^ 0) (2 ^ 149) (pow_pos 149) (of_fields binary32 s 0 t) (low_field binary32 s t)
    ∙ no_steps s (t * 2 ^ 0) (2 ^ 149) (pow_pos 149) (le_trans (bound t l) (lit≤ {m = 2 ^ 39} tt)))
  where
    bound : (t : ℕ) → t < 2 ^ 23 → t * 2 ^ 0 * 32768 * 2 ≤ 2 ^ 39
    bound t l = omega arith
small_steps (suc x) t h l s =
    sym
    (field_steps s x t (omega arith)
    ∙ no_steps s ((2 ^ 23 + t) * 2 ^ x) (2 ^ 149) (pow_pos 149)
    (le_trans (le_of_eq (mul_assoc ((2 ^ 23 + t) * 2 ^ x) 32768 2)) (le_trans (mul-le-mul_right (2 ^ 16) (le_of_lt (shl_lt 24 x (omega arith)))) (le_trans (le_of_eq (sym (pow-add 2 (24 + x) 16))) (pow_mono {i = 24 + x + 16} {j = 149} (omega arith))))))

-- between them
sample_units : (q x d : ℕ) → x + 15 + d ≡ 149 → q * 2 ^ x * 32768 * 2 ^ d ≡ q * 2 ^ 149
sample_units q x d e =
    ap (λ (n : ℕ). n * 2 ^ d) (mul_assoc q (2 ^ x) (2 ^ 15) ∙ ap (λ (n : ℕ). q * n) (sym (pow-add 2 x 15)))
    ∙ mul_assoc q (2 ^ (x + 15)) (2 ^ d)
    ∙ ap (λ (n : ℕ). q * n) (sym (pow-add 2 (x + 15) d) ∙ ap (λ (n : ℕ). 2 ^ n) e)

pub middle_steps : (field digits n : ℕ) → 111 ≤ field → field < 127 → digits < 2 ^ 23 → n ≡ closest (2 ^ 23 + digits) (2 ^ (135 - field)) → Steps field digits n × (n ≤ 32768)
middle_steps zero t n h l d e = absurd (omega arith)
middle_steps (suc x) t n h l d e =
    let q = 2 ^ 23 + t in
    let k = 135 - suc x in
    let few : q < 2 ^ (15 + k) = lt_of_lt_of_le (lead t d) (pow_mono {i = 24} {j = 15 + k} (omega arith)) in
    let low : closest q (2 ^ k) ≤ 32768 = closest_le q k 15 few in (
      λ s.
          e
          ∙ sym
          (field_steps s x t (omega arith)
          ∙ ap (λ (z : ℕ). min z 32768) (closest_same (q * 2 ^ x * 32768) (2 ^ 149) q (2 ^ k) (pow_pos 149) (pow_pos k) (sample_units q x k (omega arith)))
          ∙ min-eq_left low),
      le_trans (le_of_eq e) low,
    )
  where
    lead : (t : ℕ) → t < 2 ^ 23 → 2 ^ 23 + t < 2 ^ 24
    lead t d = omega arith

-- ---- of a float with these bits

-- the sign is that of the pattern; NaN has none, and 0 steps
signed_steps : (s : Bool) (x t : ℕ) → x < 256 → sample_out (of_fields binary32 s x t) ≡ held_of s (steps_of (of_fields binary32 s x t))
unfolding sample_out negative steps_of held_of of_fields
signed_steps s zero t h = ap (λ (b : Bool). held_of b (steps_of (of_fields binary32 s 0 t))) (value_sign s (t * 2 ^ 0) (2 ^ 149) (pow_pos 149) (of_fields binary32 s 0 t) (low_field binary32 s t))
signed_steps s (suc x) t h = go (eqb (suc x) 255) refl
  where
    Signed : ℕ → Type 0
    Signed x = held_of (negative (of_fields binary32 s x t)) (steps_of (of_fields binary32 s x t)) ≡ held_of s (steps_of (of_fields binary32 s x t))

    none : (s : Bool) → held_of false 0 ≡ held_of s 0
    none true = refl
    none false = refl

    top : (b : Bool) → held_of (negative (cond b (inf s) nan)) (steps_of (cond b (inf s) nan)) ≡ held_of s (steps_of (cond b (inf s) nan))
    top true = refl
    top false = none s

    go : (b : Bool) → eqb (suc x) 255 ≡ b → Signed (suc x)
    go true e = subst Signed (sym (eqb-true (suc x) 255 e)) (top (eqb t 0))
    go false e = ap (λ (b : Bool). held_of b (steps_of (of_fields binary32 s (suc x) t))) (value_sign s ((2 ^ 23 + t) * 2 ^ x) (2 ^ 149) (pow_pos 149) (of_fields binary32 s (suc x) t) (high_field binary32 s x t (lt_of_le-ne (omega arith) (eqb-false (suc x) 255 e))))

-- of a float x with the bits b, whose sign is s: the number z that the code gives
pub bits_out : (x : Float) (b n : ℕ) (z : ℤ) (s : Bool) → T (fits binary32 x) → b ≡ to_bits binary32 x → leb (2 ^ 31) b ≡ s → Steps (b % 2 ^ 31 / 2 ^ 23) (b % 2 ^ 23) n → n ≤ 32768 → z ≡ held_of s n → to_z w16 (of_z w16 z) ≡ sample_out x
unfolding of_bits
bits_out x b n z s t f e h l g =
    came g (held_small s n l)
    ∙ ap (held_of s) (h s)
    ∙ sym (signed_steps s (b % 2 ^ 31 / 2 ^ 23) (b % 2 ^ 23) (omega arith))
    ∙ ap (λ (v : Bool). sample_out (of_fields binary32 v (b % 2 ^ 31 / 2 ^ 23) (b % 2 ^ 23))) (sym e)
    ∙ ap sample_out (ap (of_bits binary32) f ∙ of_bits-to_bits binary32 x t)

-- ---- a sample in: a whole number of at most 16 bits is a float, so only the division could round
quotient : (s : Bool) (n : ℕ) → n ≤ 32768 → div binary32 (round binary32 s n 1) (fin false 1 (pos 15)) ≡ round binary32 s n 32768
unfolding div
quotient s n h = go (round binary32 s n 1) (round_exact binary32 s n 1 n 149 (lit< tt) (omega arith) (lt_of_le_of_lt (mul-le-mul_right (2 ^ 149) h) (lit< tt)) (sym (mul-one (n * 2 ^ 149))))
  where
    plain : (t : Bool) → unlike t false ≡ t
    plain true = refl
    plain false = refl

    go : (v : Float) → HasValue v s n 1 → div binary32 v (fin false 1 (pos 15)) ≡ round binary32 s n 32768
    go nan v = absurd v
    go (inf t) v = absurd v
    go (fin t m e) v =
        ap (λ (u : Bool). round binary32 u (m * up e * 1) (1 * 2 ^ 15 * down e)) (plain t ∙ v.0)
        ∙ round_same binary32 s (m * up e * 1) (1 * 2 ^ 15 * down e) n 32768 (mul-pos (lit< tt) (down_pos e)) (lit< tt)
        (ap (λ (k : ℕ). k * 32768) v.1 ∙ mul_assoc n (down e) 32768 ∙ ap (λ (k : ℕ). n * k) (mul_comm (down e) 32768))

pub in_is : (z : ℤ) → mag z < 32768 → div binary32 (of_int binary32 z) (of_bits binary32 1191182336) ≡ sample_in z
unfolding of_bits of_int sample_in
in_is (pos n) h = quotient false n (omega arith)
in_is (negsuc n) h = quotient true (suc n) (omega arith)
