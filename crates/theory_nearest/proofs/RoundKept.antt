-- The library's `round` keeps what Kept.antt asks: so it gives the nearest value. Assumes nothing.
use Rattle.std.proofs.Common.{◌≡◌, refl, sym, ap, ◌∙◌, subst, ◌⊎◌, inl, inr, Bool, ℕ, zero, suc, ◌+◌, ◌-◌, ◌*◌, ◌/◌, ◌%◌, ◌^◌, ◌≤◌, ◌<◌, zero-le, le_trans, le_of_eq, zero-lt-suc, eq-zero-or-pos, one-mul, zero-mul, mul_comm, mul_assoc, mul-pos, add-mul, suc-mul, le-div_iff_mul-le, arith, pow-add, pow_pos}
use Rattle.std.specs.Float.{Format}
use Prim.Native.Nat.{compare}
use native.Mathlib.Nat.{div-div-eq-div-mul}
use lib.Ieee.{prec, low, size, round, hid}
use lib.Ieee.Digits.{size_reaches}
use lib.Ieee.Fits.{nearest-le, kept-lt}
use lib.Ieee.Nearest.{closest, nearest-ge}
use Rattle.theory_nearest.specs.Nearest.{Nearest}
use Rattle.theory_nearest.specs.Whole.{NearestWhole}
use Rattle.float.proofs.Fields.{prec_pos}
use Rattle.rounding.proofs.Rounding.{round_units}
use Rattle.theory_nearest.proofs.Whole.{closest_whole}
use Rattle.theory_nearest.proofs.Powers.{first_power, twice_number}
use Rattle.theory_nearest.proofs.Kept.{Kept, kept_nearest}

-- ---- r + 1/2 and r - 1/2, in halves of u
half_more : (r u : ℕ) → suc (2 * r) * u ≡ r * u * 2 + u
half_more r u = suc-mul (2 * r) u ∙ ap (λ (x : ℕ). x + u) (mul_assoc 2 r u ∙ mul_comm 2 (r * u))

half_less : (r u : ℕ) → 0 < r → (2 * r - 1) * u + u ≡ r * u * 2
half_less r u R = ap (λ (x : ℕ). (2 * r - 1) * u + x) (sym (one-mul u)) ∙ sym (add-mul (2 * r - 1) 1 u) ∙ ap (λ (x : ℕ). x * u) (back r R) ∙ mul_assoc 2 r u ∙ mul_comm 2 (r * u)
  where
    back : (r : ℕ) → 0 < r → 2 * r - 1 + 1 ≡ 2 * r
    back r R = omega arith

-- ---- the digits that `round` keeps
round_kept : (f : Format) (num den : ℕ) → 0 < den → (k r : ℕ) → k ≡ size (num * 2 ^ low f / den) - prec f → r ≡ closest (num * 2 ^ low f) (den * 2 ^ k) → Kept f 1 num den r k
round_kept f num den D k r ek er =
    record {
      least = lowest;
      most = le_trans (le_of_eq er) (le_trans (nearest-le (N / u) (compare (N % u * 2) u)) short);
      start = lead;
      up = le_trans (le_of_eq t_is) (le_trans b.above (le_of_eq (sym (mean_is (suc (2 * r)) ∙ half_more r u))));
      down = le_trans (le_of_eq (mean_is (2 * r - 1))) (le_trans (under r b.below) (le_of_eq (sym t_is)));
      up_even = λ e. b.even_above (sym t_is ∙ e ∙ mean_is (suc (2 * r)) ∙ half_more r u);
      down_even = λ R e. b.even_below (sym (half_less r u R) ∙ ap (λ (x : ℕ). x + u) (sym (mean_is (2 * r - 1)) ∙ sym e ∙ t_is));
    }
  where
    N : ℕ
    N = num * 2 ^ low f

    u : ℕ
    u = den * 2 ^ k

    W : ℕ
    W = num * 2 ^ low f / den

    b : NearestWhole (num * 2 ^ low f) (den * 2 ^ k) r
    b = subst (NearestWhole N u) (sym er) (closest_whole N u (mul-pos D (pow_pos k)))

    under : (r : ℕ) → r * (den * 2 ^ k) * 2 ≤ num * 2 ^ low f * 2 + den * 2 ^ k → (2 * r - 1) * (den * 2 ^ k) ≤ num * 2 ^ low f * 2
    under zero h = le_trans (le_of_eq (zero-mul (den * 2 ^ k))) zero-le
    under (suc r) h = omega (arith, half_less (suc r) (den * 2 ^ k) (zero-lt-suc r))

    t_is : num * (2 * 2 ^ low f) ^ 1 ≡ num * 2 ^ low f * 2
    t_is = twice_number num (2 ^ low f)

    mean_is : (x : ℕ) → (x * 2 ^ k) ^ 1 * den ≡ x * (den * 2 ^ k)
    mean_is x = ap (λ (v : ℕ). v * den) (first_power (x * 2 ^ k)) ∙ mul_assoc x (2 ^ k) den ∙ ap (λ (v : ℕ). x * v) (mul_comm (2 ^ k) den)

    shorter : num * 2 ^ low f / (den * 2 ^ k) ≡ W / 2 ^ k
    shorter = sym (div-div-eq-div-mul (num * 2 ^ low f) den (2 ^ k))

    short : suc (num * 2 ^ low f / (den * 2 ^ k)) ≤ 2 ^ prec f
    short = subst (λ (x : ℕ). x < 2 ^ prec f) (ap (λ (x : ℕ). W / 2 ^ x) (sym ek) ∙ sym shorter) (kept-lt (prec f) W)

    -- where k digits are dropped
    long : 0 < k → 2 ^ (prec f - 1 + k) ≤ W
    long K = size_reaches W (prec f - 1 + k) (reach (size W) ek (prec_pos f))
      where
        reach : (z : ℕ) → k ≡ z - prec f → 0 < prec f → prec f - 1 + k < z
        reach z e p = omega arith

    lowest : (k ≡ 0) ⊎ (hid f ≤ r)
    lowest = elim (eq-zero-or-pos k) [ inl e ↦ inl e | inr K ↦ inr (le_trans ((le-div_iff_mul-le (pow_pos k)).1 (le_trans (le_of_eq (sym (pow-add 2 (prec f - 1) k))) (long K))) (le_trans (le_of_eq (sym shorter)) (le_trans (nearest-ge (N / u) (compare (N % u * 2) u)) (le_of_eq (sym er))))) ]

    lead : (k ≡ 0) ⊎ ((hid f * 2 ^ k) ^ 1 * den ≤ num * (2 ^ low f) ^ 1)
    lead = elim (eq-zero-or-pos k) [ inl e ↦ inl e | inr K ↦ inr (le_trans (le_of_eq (ap (λ (x : ℕ). x * den) (first_power (hid f * 2 ^ k) ∙ sym (pow-add 2 (prec f - 1) k)))) (le_trans ((le-div_iff_mul-le D).0 (long K)) (le_of_eq (ap (λ (x : ℕ). num * x) (sym (first_power (2 ^ low f))))))) ]

pub round_nearest : (f : Format) (s : Bool) (num den : ℕ) → 0 < den → Nearest f s 1 num den (round f s num den)
round_nearest f s num den D =
    let n = num * 2 ^ low f in
    let k = size (n / den) - prec f in
    subst (Nearest f s 1 num den) (sym (round_units f s num den k refl))
    (kept_nearest f s 1 num den (closest n (den * 2 ^ k)) k (zero-lt-suc 0) D (round_kept f num den D k _ refl refl))
