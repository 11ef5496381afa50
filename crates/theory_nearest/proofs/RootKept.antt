-- The digits of `sqrt_of` keep what Kept.antt asks: so it gives the value nearest to the root. No root is half way between two values. Assumes nothing.
use Rattle.std.proofs.Common.{◌≡◌, refl, sym, ap, ◌∙◌, subst, inr, true, false, ℕ, zero, suc, ◌+◌, ◌-◌, ◌*◌, ◌/◌, ◌^◌, ◌≤◌, ◌<◌, le_trans, le_of_eq, le_refl, le_of_lt, lt_of_lt_of_le, lt_of_le_of_lt, ne_of_lt, lt_of_not-le, le_of_suc-le-suc, zero-lt-suc, one-mul, mul_comm, mul_assoc, mul_left_comm, mul_right_comm, mul-pos, mul-le-mul, mul-le-mul_right, mul-lt-mul_of_pos_right, le_of_mul-le-mul_right, lt_of_mul-lt-mul_right, suc-mul, mul-div_cancel, arith, T, pow-add, pow_pos, pow_mono, shl_lt, Float}
use Rattle.std.specs.Float.{nan, Format, binary32, binary64}
use native.Mathlib.Nat.{mul-mul-mul_comm}
use lib.Ieee.{inf, fin, prec, low, hid, size, fits}
use lib.Ieee.Digits.{size-lt, size-le, size_reaches}
use lib.Ieee.Exact.{HasValue}
use lib.Ieee.Positive.{num, den, positive, den_pos, first_pos, value_pos}
use Rattle.rounding.specs.Root.{sqrt_of, nearest_root}
use Rattle.theory_nearest.specs.Nearest.{Nearest, signed}
use Rattle.float.proofs.Fields.{prec_pos}
use Rattle.rounding.proofs.Pack.{size_gt}
use Rattle.rounding.proofs.WholeRoot.{nearest_ge, nearest_bounds, square_suc, square_odd}
use Rattle.rounding.proofs.Aligned.{power_four}
use Rattle.rounding.proofs.RootLaw.{sqrt_of_lem, root_units_lem}
use Rattle.theory_nearest.proofs.Powers.{square, mul_pow}
use Rattle.theory_nearest.proofs.Magnitude.{UnitSize, unit_size}
use Rattle.theory_nearest.proofs.Grid.{on_grid}
use Rattle.theory_nearest.proofs.Kept.{Kept, kept_nearest}

-- ---- the number under the root, q * 2 ^ h, in squares of the 2 ^ k that the root's grid has
abbrev places : ℕ → ℕ → ℕ
places p n = (size n + 1) / 2 - p

record Parts (p n k : ℕ) : Type 0 where
  M : ℕ
  whole : n ≡ M * (2 ^ k * 2 ^ k)
  least : 2 ^ (p - 1) * 2 ^ (p - 1) ≤ M
  most : M < 2 ^ p * 2 ^ p

parts : (p q h : ℕ) → 0 < p → 0 < q → q < 2 ^ p → 2 * p ≤ h → Parts p (q * 2 ^ h) (places p (q * 2 ^ h))
parts p q h P Q hi l =
    let n = q * 2 ^ h in
    let e = size n in
    let k = places p n in
    let S = 2 ^ k * 2 ^ k in
    let a : h < e = size_gt n h (le_trans (le_of_eq (sym (one-mul (2 ^ h)))) (mul-le-mul_right (2 ^ h) Q)) in
    let b : e ≤ p + h = size-le n (p + h) (shl_lt p h hi) in
    let c : k + k ≤ h = omega arith in
    let M = q * 2 ^ (h - (k + k)) in
    let g : n ≡ M * S = on_grid q h (k + k) c ∙ ap (λ (x : ℕ). M * x) (pow-add 2 k k) in
    let lo : 2 ^ (e - 1) ≤ n = size_reaches n (e - 1) (omega arith) in
    let up : n < 2 ^ e = size-lt n in
    let sp : (i : ℕ) → 2 ^ (i + k + (i + k)) ≡ 2 ^ i * 2 ^ i * S = λ i. pow-add 2 (i + k) (i + k) ∙ ap (λ (x : ℕ). x * x) (pow-add 2 i k) ∙ mul-mul-mul_comm (2 ^ i) (2 ^ k) (2 ^ i) (2 ^ k) in
    record {
      M = M;
      whole = g;
      least = le_of_mul-le-mul_right (le_trans (le_of_eq (sym (sp (p - 1)))) (le_trans (pow_mono {i = p - 1 + k + (p - 1 + k)} {j = e - 1} (omega arith)) (le_trans lo (le_of_eq g)))) (mul-pos (pow_pos k) (pow_pos k));
      most = lt_of_mul-lt-mul_right S (lt_of_le_of_lt (le_of_eq (sym g)) (lt_of_lt_of_le up (le_trans (pow_mono {i = e} {j = p + k + (p + k)} (omega arith)) (le_of_eq (sp p)))));
    }

root_high : (r M p : ℕ) → r * r < M + r → M < p * p → r ≤ p
root_high r M p h l = le_of_suc-le-suc (lt_of_not-le (λ (g : suc p ≤ r). no g))
  where
    no : suc p ≤ r → ⊥
    no g =
        let a : suc p * r ≤ r * r = mul-le-mul_right r g in
        let b : suc p * r ≡ p * r + r = suc-mul p r in
        let c : p * p ≤ p * r = mul-le-mul (le_refl p) (le_of_lt g) in
        omega arith

-- ---- the squares of the two midpoints
above : (M r : ℕ) → M ≤ r * r + r → 4 * M < suc (2 * r) * suc (2 * r)
above M r h = let a = square_odd r in omega arith

below : (M r : ℕ) → 0 < M → r * r < M + r → (2 * r - 1) * (2 * r - 1) < 4 * M
below M zero m h = omega arith
below M (suc r) m h = subst (λ (x : ℕ). x * x < 4 * M) (sym (odd_at r)) (let a = square_odd r in let b = square_suc r in omega arith)
  where
    odd_at : (r : ℕ) → 2 * suc r - 1 ≡ suc (2 * r)
    odd_at r = omega arith

-- ---- x in units, and the powers that the law compares
module _ (n d L X M k : ℕ) (e : n * L ≡ X * d) (g : X * L ≡ M * (2 ^ k * 2 ^ k)) where
  abbrev W : ℕ
  W = 2 ^ k * 2 ^ k * d

  under_root : n * L ^ 2 ≡ M * W
  under_root = ap (λ (x : ℕ). n * x) (square L) ∙ sym (mul_assoc n L L) ∙ ap (λ (x : ℕ). x * L) e ∙ mul_right_comm X d L ∙ ap (λ (x : ℕ). x * d) g ∙ mul_assoc M (2 ^ k * 2 ^ k) d

  under_twice : n * (2 * L) ^ 2 ≡ 4 * M * W
  under_twice = ap (λ (x : ℕ). n * x) (mul_pow 2 L 2) ∙ mul_left_comm n 4 (L ^ 2) ∙ ap (λ (x : ℕ). 4 * x) under_root ∙ sym (mul_assoc 4 M W)

  at_place : (x : ℕ) → (x * 2 ^ k) ^ 2 * d ≡ x * x * W
  at_place x = ap (λ (v : ℕ). v * d) (square (x * 2 ^ k) ∙ mul-mul-mul_comm x (2 ^ k) x (2 ^ k)) ∙ mul_assoc (x * x) (2 ^ k * 2 ^ k) d

root_kept : (f : Format) (n d X M r k : ℕ) → 0 < d → n * 2 ^ low f ≡ X * d → X * 2 ^ low f ≡ M * (2 ^ k * 2 ^ k) → hid f * hid f ≤ M → hid f ≤ r → r ≤ 2 ^ prec f → M ≤ r * r + r → r * r < M + r → Kept f 2 n d r k
root_kept f n d X M r k D e g lo least most not_more not_less =
    let L = 2 ^ low f in
    let U = 2 ^ k * 2 ^ k * d in
    let U_pos : 0 < U = mul-pos (mul-pos (pow_pos k) (pow_pos k)) D in
    let twice = under_twice n d L X M k e g in
    let place = at_place n d L X M k e g in
    let up : n * (2 * L) ^ 2 < (suc (2 * r) * 2 ^ k) ^ 2 * d = lt_of_le_of_lt (le_of_eq twice) (lt_of_lt_of_le (mul-lt-mul_of_pos_right (above M r not_more) U_pos) (le_of_eq (sym (place (suc (2 * r)))))) in
    let down : ((2 * r - 1) * 2 ^ k) ^ 2 * d < n * (2 * L) ^ 2 = lt_of_le_of_lt (le_of_eq (place (2 * r - 1))) (lt_of_lt_of_le (mul-lt-mul_of_pos_right (below M r (lt_of_lt_of_le (mul-pos (pow_pos (prec f - 1)) (pow_pos (prec f - 1))) lo) not_less) U_pos) (le_of_eq (sym twice))) in
    record {
      least = inr least;
      most = most;
      start = inr (le_trans (le_of_eq (place (hid f))) (le_trans (mul-le-mul_right U lo) (le_of_eq (sym (under_root n d L X M k e g)))));
      up = le_of_lt up;
      down = le_of_lt down;
      up_even = λ v. absurd (ne_of_lt up v);
      down_even = λ R v. absurd (ne_of_lt down (sym v));
    }

-- ---- of a format's value
positive_signed : (x : Float) → T (positive x) → T (signed false x)
positive_signed nan p = absurd p
positive_signed (inf s) p = absurd p
positive_signed (fin true m e) p = absurd p
positive_signed (fin false m e) p = tt

positive_value : (f : Format) (x : Float) → T (positive x) → (w : UnitSize f x) → HasValue x false (w.m * 2 ^ w.i) (2 ^ low f) × (num x * 2 ^ low f ≡ w.m * 2 ^ w.i * den x)
positive_value f nan p w = absurd p
positive_value f (inf s) p w = absurd p
positive_value f (fin true m e) p w = absurd p
positive_value f (fin false m e) p w = ((refl, w.mag), w.mag)

wide : (f : Format) (k : ℕ) → 2 * prec f ≤ low f + k
wide binary32 k = omega arith
wide binary64 k = omega arith

pub root_nearest : (f : Format) (x : Float) → T (fits f x) → T (positive x) → Nearest f false 2 (num x) (den x) (sqrt_of f x)
root_nearest f x t p =
    let w = unit_size f false x t (positive_signed x p) in
    let q = w.m in
    let i = w.i in
    let v = positive_value f x p w in
    let l = low f in
    let n = q * 2 ^ (l + i) in
    let P = prec f in
    let k = places P n in
    let S = 2 ^ k * 2 ^ k in
    let Q : 0 < q = first_pos q (2 ^ i) (value_pos x (q * 2 ^ i) (2 ^ l) p (pow_pos l) v.0) in
    let z = parts P q (l + i) (prec_pos f) Q w.short (wide f i) in
    let M = z.M in
    let same : q * 2 ^ i * 2 ^ l ≡ n = mul_assoc q (2 ^ i) (2 ^ l) ∙ ap (λ (y : ℕ). q * y) (mul_comm (2 ^ i) (2 ^ l) ∙ sym (pow-add 2 l i)) in
    let cut : n / 4 ^ k ≡ M = ap (λ (y : ℕ). n / y) (power_four k) ∙ ap (λ (y : ℕ). y / S) z.whole ∙ mul-div_cancel M (mul-pos (pow_pos k) (pow_pos k)) in
    let nb = nearest_bounds M (lt_of_lt_of_le (mul-pos (pow_pos (P - 1)) (pow_pos (P - 1))) z.least) in
    let r = nearest_root M in
    subst (Nearest f false 2 (num x) (den x)) (sym (sqrt_of_lem f x q i v.0 Q ∙ root_units_lem f n r k refl (ap nearest_root (sym cut))))
    (kept_nearest f false 2 (num x) (den x) r k (zero-lt-suc 1) (den_pos x)
    (root_kept f (num x) (den x) (q * 2 ^ i) M r k (den_pos x) v.1 (same ∙ z.whole) z.least (nearest_ge M (2 ^ (P - 1)) z.least) (root_high r M (2 ^ P) nb.1 z.most) nb.0 nb.1))
