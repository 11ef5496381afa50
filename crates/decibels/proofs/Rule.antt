-- From the nearest to 10 ^ i / 10 ^ suc b at each place i of a list to the nearest to 10 ^ (z / j) at each number of decibels z. Assumes nothing.
use Rattle.std.proofs.Common.{◌≡◌, sym, ap, ◌∙◌, subst, Bool, false, cond, List, ℕ, suc, ◌+◌, ◌-◌, ◌*◌, ◌^◌, ◌≤◌, ◌<◌, le_trans, le_of_eq, le_of_mul-le-mul_right, one-mul, mul_assoc, mul_right_comm, arith, leb→le, lit<, pow-add, ℤ, pos, negsuc, ◌≤ℤ◌, get_or, Float, lt-ltb}
use Rattle.std.specs.Float.{nan, Format}
use native.Mathlib.Nat.{one-le-pow}
use lib.Ieee.{of_bits}
use Rattle.theory_nearest.specs.Nearest.{Nearest, Nearer, sum, product}
use Rattle.theory_nearest.proofs.OtherSign.{of_one_sign}
use Rattle.decibels.specs.Power.{NearestPower}
use Rattle.decibels.proofs.Places.{entry_of}

-- n and d may have a common factor
common_factor : {f : Format} {s : Bool} {j n d : ℕ} {y : Float} (c : ℕ) → 0 < c → Nearest f s j (n * c) (d * c) y → Nearest f s j n d y
common_factor {f} {s} {j} {n} {d} {y} c C h = of_one_sign f s j n d y (λ z u v. at z (h.nearest z u v)) h.held h.sign
  where
    left : (z : Float) → n * c * (2 * product y z) ^ j ≡ n * (2 * product y z) ^ j * c
    left z = mul_right_comm n c ((2 * product y z) ^ j)

    right : (z : Float) → sum f y z ^ j * (d * c) ≡ sum f y z ^ j * d * c
    right z = sym (mul_assoc (sum f y z ^ j) d c)

    at : (z : Float) → Nearer f j (n * c) (d * c) y z → Nearer f j n d y z
    at z g =
        record {
          below = λ l. le_of_mul-le-mul_right (le_trans (le_of_eq (sym (left z))) (le_trans (g.below l) (le_of_eq (right z)))) C;
          above = λ l. le_of_mul-le-mul_right (le_trans (le_of_eq (sym (right z))) (le_trans (g.above l) (le_of_eq (left z)))) C;
          tie = λ u e. g.tie u (left z ∙ ap (λ (x : ℕ). x * c) e ∙ sym (right z));
        }

module _ (f : Format) (j : ℕ) (xs : List ℕ) (b : ℕ) (low : Float) (h : (i : ℕ) → i < b + 26 → Nearest f false j (10 ^ i) (10 ^ suc b) (of_bits f (get_or xs i 0))) where
  reduced : (i c n d : ℕ) → i < b + 26 → 0 < c → 10 ^ i ≡ n * c → 10 ^ suc b ≡ d * c → Nearest f false j n d (of_bits f (get_or xs i 0))
  reduced i c n d l C p q =
      common_factor c C
      (subst (λ (x : ℕ). Nearest f false j x (d * c) (of_bits f (get_or xs i 0))) p
      (subst (λ (x : ℕ). Nearest f false j (10 ^ i) x (of_bits f (get_or xs i 0))) q (h i l)))

  pub rule : (z : ℤ) → negsuc b ≤ℤ z → z ≤ℤ pos 24 → NearestPower f j z (entry_of f xs b low z)
  rule (pos k) lo hi =
      let l : k ≤ 24 = leb→le k 24 hi.le in
      subst (λ (t : Bool). Nearest f false j (10 ^ k) 1 (cond t (of_bits f (get_or xs (k + suc b) 0)) nan)) (sym (lt-ltb k 25 (omega arith)))
      (reduced (k + suc b) (10 ^ suc b) (10 ^ k) 1 (omega arith) (one-le-pow (suc b) 10 (lit< tt)) (pow-add 10 k (suc b)) (sym (one-mul (10 ^ suc b))))
  rule (negsuc k) lo hi =
      let l : k ≤ b = leb→le k b lo.le in
      let e : suc b ≡ suc k + (b - k) = omega arith in
      subst (λ (t : Bool). Nearest f false j 1 (10 ^ suc k) (cond t (of_bits f (get_or xs (b - k) 0)) low)) (sym (lt-ltb k (suc b) (omega arith)))
      (reduced (b - k) (10 ^ (b - k)) 1 (10 ^ suc k) (omega arith) (one-le-pow (b - k) 10 (lit< tt)) (sym (one-mul (10 ^ (b - k)))) (ap (λ (x : ℕ). 10 ^ x) e ∙ pow-add 10 (suc k) (b - k)))
