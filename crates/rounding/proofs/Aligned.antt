-- The root of q * 2 ^ j, of which p digits are kept, from that of q shifted to the top of a word. Assumes nothing.
use Rattle.std.proofs.Common.{◌≡◌, refl, sym, ap, ◌∙◌, ℕ, zero, suc, ◌+◌, ◌-◌, ◌*◌, ◌/◌, ◌%◌, ◌^◌, ◌≤◌, ◌<◌, le_trans, le_of_eq, lt_of_lt_of_le, lt_of_le_of_lt, mul_assoc, mul-le-mul_right, pow-suc, zero-lt-suc, le-div_iff_mul-le, arith, pow-add, pow_pos, pow_mono, shl_lt, shl_exact}
use native.Mathlib.Nat.{mul-mul-mul_comm, one-le-pow}
use lib.Count.{count_leading_zeros, leading_top}
use lib.Ieee.{size}
use lib.Ieee.Nearest.{div_same}
use Rattle.rounding.specs.Root.{nearest_root}
use Rattle.rounding.specs.Inner.{Rootable, ScaledRoot}
use Rattle.rounding.proofs.Pack.{size_is, pow_lt_back}
use Rattle.rounding.proofs.WholeRoot.{nearest_ge}

pub power_four : (k : ℕ) → 4 ^ k ≡ 2 ^ k * 2 ^ k
power_four zero = refl
power_four (suc k) = pow-suc 4 k ∙ ap (λ (x : ℕ). x * 4) (power_four k) ∙ mul-mul-mul_comm (2 ^ k) (2 ^ k) 2 2 ∙ ap (λ (x : ℕ). x * x) (sym (pow-suc 2 k))

-- the places of a word, and those that a number of up to 53 digits leaves free
pub lead : (q : ℕ) → 0 < q → q < 2 ^ 53 → (k : ℕ) × (count_leading_zeros 64 q + suc k ≡ 64) × (2 ^ k ≤ q) × (q < 2 ^ suc k) × (suc k ≤ 53)
lead q h l =
    let t = leading_top 64 q h (lt_of_lt_of_le l (pow_mono {i = 53} {j = 64} (omega arith))) in
    (t.0, t.1, t.2, t.3, pow_lt_back t.0 53 (lt_of_le_of_lt t.2 l))

aligned : (q j s p k : ℕ) → s + (p + k) * 2 ≡ j + 64 → q * 2 ^ j / 4 ^ k ≡ q * 2 ^ s * 4 ^ p / 2 ^ 64
aligned q j s p k e =
    div_same (q * 2 ^ j) (4 ^ k) (q * 2 ^ s * 4 ^ p) (2 ^ 64) (one-le-pow k 4 (zero-lt-suc 3)) (pow_pos 64)
    (mul_assoc q (2 ^ j) (2 ^ 64)
    ∙ ap (λ (x : ℕ). q * x) (sym (pow-add 2 j 64) ∙ ap (λ (x : ℕ). 2 ^ x) (sym e ∙ spread) ∙ pow-add 2 s (p + p + (k + k)) ∙ ap (λ (x : ℕ). 2 ^ s * x) (pow-add 2 (p + p) (k + k) ∙ ap (λ (x : ℕ). x * 2 ^ (k + k)) (pow-add 2 p p ∙ sym (power_four p)) ∙ ap (λ (x : ℕ). 4 ^ p * x) (pow-add 2 k k ∙ sym (power_four k))))
    ∙ sym (mul_assoc q (2 ^ s) (4 ^ p * 4 ^ k))
    ∙ sym (mul_assoc (q * 2 ^ s) (4 ^ p) (4 ^ k)))
  where
    spread : s + (p + k) * 2 ≡ s + (p + p + (k + k))
    spread = omega arith

-- a word of 63 or 64 digits has a root of p
root_low : (w p : ℕ) → 0 < p → 2 ^ 62 ≤ w → 2 ^ (p - 1) ≤ nearest_root (w * 4 ^ p / 2 ^ 64)
root_low w p P h =
    let a = 2 ^ (p - 1) in
    let i : suc (p - 1) ≡ p = omega arith in
    let e : 4 ^ p ≡ a * a * 4 = ap (λ (x : ℕ). 4 ^ x) (sym i) ∙ pow-suc 4 (p - 1) ∙ ap (λ (x : ℕ). x * 4) (power_four (p - 1)) in
    let m : 2 ^ 62 * (a * a * 4) ≤ w * 4 ^ p = le_trans (mul-le-mul_right (a * a * 4) h) (le_of_eq (ap (λ (x : ℕ). w * x) (sym e))) in
    nearest_ge (w * 4 ^ p / 2 ^ 64) a ((le-div_iff_mul-le (pow_pos 64)).1 (omega arith))

pub aligned_root : (q j p s r : ℕ) → Rootable q j p → s + (j + 64 - count_leading_zeros 64 q + 1) / 2 * 2 ≡ j + 64 → s ≤ count_leading_zeros 64 q → count_leading_zeros 64 q ≤ s + 1
    → r ≡ nearest_root ((q * 2 ^ s) % 2 ^ 64 * 4 ^ p / 2 ^ 64) → r ≤ 2 ^ p → ScaledRoot q j p r ((j + 64 - count_leading_zeros 64 q + 1) / 2 - p)
aligned_root q j p s r h e a b n u =
    let z = count_leading_zeros 64 q in
    let len = j + 64 - z in
    let k = (len + 1) / 2 - p in
    let t = lead q h.some h.short in
    let c = t.0 in
    let t1 : z + suc c ≡ 64 = t.1 in
    let t4 : suc c ≤ 53 = t.4 in
    let long = h.long in
    let wide = h.wide in
    let little = h.little in
    let sz : size (q * 2 ^ j) ≡ suc (c + j) = size_is (q * 2 ^ j) (c + j) (le_trans (le_of_eq (pow-add 2 c j)) (mul-le-mul_right (2 ^ j) t.2)) (lt_of_lt_of_le (shl_lt (suc c) j t.3) (le_of_eq (ap (λ (x : ℕ). 2 ^ x) (turn c j)))) in
    let sl : size (q * 2 ^ j) ≡ len = sz ∙ omega arith in
    let fit : (q * 2 ^ s) % 2 ^ 64 ≡ q * 2 ^ s = shl_exact (suc c) s 64 t.3 (omega arith) in
    let al : q * 2 ^ j / 4 ^ k ≡ q * 2 ^ s * 4 ^ p / 2 ^ 64 = aligned q j s p k (omega arith) in
    let wd : 2 ^ 62 ≤ q * 2 ^ s = le_trans (pow_mono {i = 62} {j = c + s} (omega arith)) (le_trans (le_of_eq (pow-add 2 c s)) (mul-le-mul_right (2 ^ s) t.2)) in
    let n' : r ≡ nearest_root (q * 2 ^ s * 4 ^ p / 2 ^ 64) = n ∙ ap (λ (x : ℕ). nearest_root (x * 4 ^ p / 2 ^ 64)) fit in
    record {
      places = ap (λ (x : ℕ). (x + 1) / 2 - p) (sym sl);
      nearest = n' ∙ ap nearest_root (sym al);
      low = le_trans (root_low (q * 2 ^ s) p (omega arith) wd) (le_of_eq (sym n'));
      high = u;
      little = omega arith;
    }
  where
    turn : (c j : ℕ) → suc c + j ≡ suc (c + j)
    turn c j = omega arith
