-- The numbers of a format that its bits are made of. Assumes nothing.
use Rattle.std.proofs.Common.{◌≡◌, sym, ap, ◌∙◌, ℕ, suc, ◌+◌, ◌-◌, ◌*◌, ◌^◌, ◌≤◌, ◌<◌, le_trans, le_of_eq, mul-le-mul_right, suc-mul, pow-suc, arith}
use Rattle.std.specs.Float.{Format}
use lib.Ieee.{prec, hid}
use lib.Ieee.Fits.{two, two-le_pos}

pub suc_pred : (p : ℕ) → 0 < p → suc (p - 1) ≡ p
suc_pred p h = omega arith

pub twice : (p : ℕ) → 0 < p → 2 ^ p ≡ 2 ^ (p - 1) * 2
twice p h = ap (λ (x : ℕ). 2 ^ x) (sym (suc_pred p h)) ∙ pow-suc 2 (p - 1)

-- two more of h, for the two exponents that are no finite value's
pub two_more : (k o h : ℕ) → suc (suc k) ≤ o → k * h + h * 2 ≤ o * h
two_more k o h l = le_trans (le_of_eq (more (suc (suc k) * h) (suc k * h) (k * h) (suc-mul (suc k) h) (suc-mul k h))) (mul-le-mul_right h l)
  where
    more : (x y z : ℕ) → x ≡ y + h → y ≡ z + h → z + h * 2 ≡ x
    more x y z a b = omega arith

pub prec_pos : (f : Format) → 0 < prec f
prec_pos f = two-le_pos (prec f) (two f)

pub hid_twice : (f : Format) → 2 ^ prec f ≡ hid f * 2
hid_twice f = twice (prec f) (prec_pos f)
