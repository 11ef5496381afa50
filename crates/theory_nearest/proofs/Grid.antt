-- The grid of a format's values: from 2 ^ (p - 1 + k) units up to 2 ^ (p + k) they are 2 ^ k units apart, and the last digit of a value's bits is that of its place on the grid. Assumes nothing.
use Rattle.std.proofs.Common.{◌≡◌, refl, sym, ap, ◌∙◌, subst, ◌⊎◌, inl, inr, ℕ, suc, ◌+◌, ◌-◌, ◌*◌, ◌/◌, ◌%◌, ◌^◌, ◌≤◌, ◌<◌, le_trans, le_of_eq, le_of_lt, lt_of_lt_of_le, lt_of_le_of_lt, mul-one, mul_assoc, mul_comm, mul-le-mul_right, lt_of_mul-lt-mul_right, suc-mul, add_assoc, one-mul, arith, Bool, true, false, not, cond, ℤ, T, ltb, ltb→lt, nltb→le, pow-add, pow_pos, pow_mono, shl_lt, Float}
use Rattle.std.specs.Float.{nan, Format, binary32, binary64}
use native.Mathlib.Nat.{eq_of_mul-eq-mul_right}
use lib.Ieee.{inf, fin, prec, size, hid, top, to_bits}
use lib.Ieee.Digits.{back}
use Rattle.theory_nearest.specs.Nearest.{signed, last_digit}
use Rattle.float.proofs.Fields.{twice, prec_pos}
use Rattle.rounding.proofs.Pack.{pow_lt_back, bits_at, packed}
use Rattle.theory_nearest.proofs.Magnitude.{Mag, end_of, inf_only, beq_same}

pub on_grid : (m i k : ℕ) → k ≤ i → m * 2 ^ i ≡ m * 2 ^ (i - k) * 2 ^ k
on_grid m i k h = ap (λ (x : ℕ). m * x) (ap (λ (x : ℕ). 2 ^ x) (sym (back i k h)) ∙ pow-add 2 (i - k) k) ∙ sym (mul_assoc m (2 ^ (i - k)) (2 ^ k))

-- ---- the neighbours of r * 2 ^ k
pub next_up : (p m i r k : ℕ) → 0 < p → m < 2 ^ p → (k ≡ 0) ⊎ (2 ^ (p - 1) ≤ r) → r * 2 ^ k < m * 2 ^ i → suc r * 2 ^ k ≤ m * 2 ^ i
next_up p m i r k P hi (inl e) l =
    let a : r < m * 2 ^ i = lt_of_le_of_lt (le_of_eq (sym (mul-one r))) (subst (λ (x : ℕ). r * 2 ^ x < m * 2 ^ i) e l) in
    subst (λ (x : ℕ). suc r * 2 ^ x ≤ m * 2 ^ i) (sym e) (le_trans (le_of_eq (mul-one (suc r))) a)
next_up p m i r k P hi (inr lo) l =
    let a : 2 ^ (p - 1 + k) < 2 ^ (p + i) = lt_of_le_of_lt (le_trans (le_of_eq (pow-add 2 (p - 1) k)) (le_trans (mul-le-mul_right (2 ^ k) lo) (le_of_lt l))) (shl_lt p i hi) in
    let b : p - 1 + k < p + i = pow_lt_back (p - 1 + k) (p + i) a in
    let g = on_grid m i k (omega arith) in
    le_trans (mul-le-mul_right (2 ^ k) (lt_of_mul-lt-mul_right (2 ^ k) (lt_of_lt_of_le l (le_of_eq g)))) (le_of_eq (sym g))

pub next_down : (p m i r k : ℕ) → 0 < p → m < 2 ^ p → (k ≡ 0) ⊎ (2 ^ (p - 1) < r) → m * 2 ^ i < r * 2 ^ k → m * 2 ^ i + 2 ^ k ≤ r * 2 ^ k
next_down p m i r k P hi (inl e) l = subst (λ (x : ℕ). m * 2 ^ i + 2 ^ x ≤ r * 2 ^ x) (sym e) (one_less (m * 2 ^ i) (r * 2 ^ 0) (subst (λ (x : ℕ). m * 2 ^ i < r * 2 ^ x) e l))
  where
    one_less : (a b : ℕ) → a < b → a + 1 ≤ b
    one_less a b h = omega arith
next_down p m i r k P hi (inr lo) l = go (ltb i k) (ltb→lt i k) (nltb→le i k)
  where
    go : (b : Bool) → (T b → i < k) → (T (not b) → k ≤ i) → m * 2 ^ i + 2 ^ k ≤ r * 2 ^ k
    go true y n =
        let c = y tt in
        let a : m * 2 ^ i ≤ 2 ^ (p - 1) * 2 ^ k = le_trans (le_of_lt (shl_lt p i hi)) (le_trans (pow_mono {i = p + i} {j = p - 1 + k} (omega arith)) (le_of_eq (pow-add 2 (p - 1) k))) in
        let b : suc (2 ^ (p - 1)) * 2 ^ k ≤ r * 2 ^ k = mul-le-mul_right (2 ^ k) lo in
        let e : suc (2 ^ (p - 1)) * 2 ^ k ≡ 2 ^ (p - 1) * 2 ^ k + 2 ^ k = suc-mul (2 ^ (p - 1)) (2 ^ k) in
        omega arith
    go false y n =
        let g = on_grid m i k (n tt) in
        let w = m * 2 ^ (i - k) in
        let a : suc w ≤ r = lt_of_mul-lt-mul_right (2 ^ k) (lt_of_le_of_lt (le_of_eq (sym g)) l) in
        let b : suc w * 2 ^ k ≤ r * 2 ^ k = mul-le-mul_right (2 ^ k) a in
        let c : suc w * 2 ^ k ≡ w * 2 ^ k + 2 ^ k = suc-mul w (2 ^ k) in
        omega arith

-- ---- powers of two
-- past 2 ^ p the values are further apart
pub not_past : (p m i k : ℕ) → 0 < p → m < 2 ^ p → m * 2 ^ i ≡ suc (2 ^ p) * 2 ^ k → ⊥
not_past p m i k P hi e = go (ltb k i) (ltb→lt k i) (nltb→le k i)
  where
    go : (b : Bool) → (T b → k < i) → (T (not b) → i ≤ k) → ⊥
    go true y n =
        let c = y tt in
        let a : m * 2 ^ (i - k) ≡ suc (2 ^ p) = eq_of_mul-eq-mul_right (2 ^ k) (pow_pos k) _ _ (sym (on_grid m i k (le_of_lt c)) ∙ e) in
        let w : m * 2 ^ (i - k) ≡ m * 2 ^ (i - k - 1) * 2 = ap (λ (z : ℕ). m * z) (twice (i - k) (omega arith)) ∙ sym (mul_assoc m (2 ^ (i - k - 1)) 2) in
        uneven (m * 2 ^ (i - k - 1)) (2 ^ (p - 1)) (sym w ∙ a ∙ ap suc (twice p P))
      where
        uneven : (a b : ℕ) → a * 2 ≡ suc (b * 2) → ⊥
        uneven a b e = omega arith
    go false y n =
        let c = n tt in
        let a : m ≡ suc (2 ^ p) * 2 ^ (k - i) = eq_of_mul-eq-mul_right (2 ^ i) (pow_pos i) _ _ (e ∙ on_grid (suc (2 ^ p)) k i c) in
        let b : suc (2 ^ p) * 1 ≤ suc (2 ^ p) * 2 ^ (k - i) = le_trans (le_of_eq (mul_comm (suc (2 ^ p)) 1)) (le_trans (mul-le-mul_right (suc (2 ^ p)) (pow_pos (k - i))) (le_of_eq (mul_comm (2 ^ (k - i)) (suc (2 ^ p))))) in
        let d : suc (2 ^ p) * 1 ≡ suc (2 ^ p) = mul-one (suc (2 ^ p)) in
        omega arith

-- a power of two that is a multiple of 2 ^ k, and more than it, is an even one
pub power_even : (q k t : ℕ) → 1 < q → q * 2 ^ k ≡ 2 ^ t → q % 2 ≡ 0
power_even q k t Q e =
    let a : 2 ^ k < 2 ^ t = lt_of_lt_of_le (grown q (2 ^ k) Q (pow_pos k)) (le_of_eq e) in
    let b : k < t = pow_lt_back k t a in
    let c : q ≡ 2 ^ (t - k) = eq_of_mul-eq-mul_right (2 ^ k) (pow_pos k) _ _ (e ∙ sym (one-mul (2 ^ t)) ∙ on_grid 1 t k (le_of_lt b) ∙ ap (λ (x : ℕ). x * 2 ^ k) (one-mul (2 ^ (t - k)))) in
    ap (λ (z : ℕ). z % 2) (c ∙ twice (t - k) (omega arith)) ∙ whole (2 ^ (t - k - 1))
  where
    grown : (q a : ℕ) → 1 < q → 0 < a → a < q * a
    grown q a h l = let b : 2 * a ≤ q * a = mul-le-mul_right a h in omega arith

    whole : (a : ℕ) → a * 2 % 2 ≡ 0
    whole a = omega arith

-- ---- the last digit of the bits of q * 2 ^ k units
digit : (f : Format) (s : Bool) (k q : ℕ) → (cond s (top f) 0 + (k * hid f + q)) % 2 ≡ q % 2
digit binary32 true k q = omega arith
digit binary32 false k q = omega arith
digit binary64 true k q = omega arith
digit binary64 false k q = omega arith

pub inf_digit : (f : Format) (s : Bool) → last_digit f (inf s) ≡ 0
unfolding to_bits
inf_digit binary32 true = refl
inf_digit binary32 false = refl
inf_digit binary64 true = refl
inf_digit binary64 false = refl

module _ (f : Format) (s : Bool) (q k : ℕ) (most : q ≤ 2 ^ prec f) (least : (k ≡ 0) ⊎ (hid f ≤ q)) where
  fin_digit : (u : Bool) (m : ℕ) (e : ℤ) → T (signed s (fin u m e)) → Mag f (fin u m e) (q * 2 ^ k) → last_digit f (fin u m e) ≡ q % 2
  fin_digit u m e p h =
      ap (λ (x : ℕ). x % 2)
      (bits_at f s (q * 2 ^ k) u m e (beq_same u s p, h)
      ∙ add_assoc (cond s (top f) 0) ((size (q * 2 ^ k) - prec f) * hid f) (q * 2 ^ k / 2 ^ (size (q * 2 ^ k) - prec f))
      ∙ ap (λ (x : ℕ). cond s (top f) 0 + x) (packed (prec f) q k (prec_pos f) most least))
      ∙ digit f s k q

  pub even_digit : (z : Float) → T (signed s z) → Mag f z (q * 2 ^ k) → q % 2 ≡ 0 → last_digit f z ≡ 0
  even_digit nan p h e = absurd p
  even_digit (inf u) p h e = inf_digit f u
  even_digit (fin u m x) p h e = fin_digit u m x p h ∙ e

  pub odd_digit : (z : Float) → T (signed s z) → Mag f z (q * 2 ^ k) → (q * 2 ^ k ≡ end_of f → ⊥) → q % 2 ≡ 1 → last_digit f z ≡ 1
  odd_digit nan p h n e = absurd p
  odd_digit (inf u) p h n e = absurd (n (inf_only f u (q * 2 ^ k) h))
  odd_digit (fin u m x) p h n e = fin_digit u m x p h ∙ e
