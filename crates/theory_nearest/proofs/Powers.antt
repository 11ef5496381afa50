-- Comparing j-th powers of whole numbers, and products with them. Assumes nothing.
use Rattle.std.proofs.Common.{◌≡◌, sym, ap, ◌∙◌, ◌⊎◌, inl, inr, ℕ, zero, suc, ◌*◌, ◌^◌, ◌≤◌, ◌<◌, le_trans, le_of_eq, lt_irrefl, lt_of_lt_of_le, eq-or-lt_of_le, mul_comm, mul_assoc, mul-le-mul_right, mul-lt-mul_of_pos_right, le_of_mul-le-mul_right, one-mul, pow-suc, arith, Bool, true, false, not, T, ltb, ltb→lt, nltb→le}
use native.Mathlib.Nat.{mul-mul-mul_comm, eq_of_mul-eq-mul_right, pow-zero, pow-le-pow_left, pow-lt-pow_left}

pub first_power : (a : ℕ) → a ^ 1 ≡ a
first_power a = pow-suc a 0 ∙ ap (λ (x : ℕ). x * a) (pow-zero a) ∙ one-mul a

pub twice_number : (a b : ℕ) → a * (2 * b) ^ 1 ≡ a * b * 2
twice_number a b = ap (λ (x : ℕ). a * x) (first_power (2 * b) ∙ mul_comm 2 b) ∙ sym (mul_assoc a b 2)

pub square : (a : ℕ) → a ^ 2 ≡ a * a
square a = pow-suc a 1 ∙ ap (λ (x : ℕ). x * a) (first_power a)

pub mul_pow : (a b j : ℕ) → (a * b) ^ j ≡ a ^ j * b ^ j
mul_pow a b zero = pow-zero (a * b) ∙ sym (ap (λ (x : ℕ). x * b ^ 0) (pow-zero a) ∙ ap (λ (x : ℕ). 1 * x) (pow-zero b))
mul_pow a b (suc j) = pow-suc (a * b) j ∙ ap (λ (x : ℕ). x * (a * b)) (mul_pow a b j) ∙ mul-mul-mul_comm (a ^ j) (b ^ j) a b ∙ ap (λ (x : ℕ). x * (b ^ j * b)) (sym (pow-suc a j)) ∙ ap (λ (x : ℕ). a ^ suc j * x) (sym (pow-suc b j))

-- below, at or above
pub split_order : (a b : ℕ) → (a < b) ⊎ ((b < a) ⊎ (a ≡ b))
split_order a b = pick (ltb a b) (ltb→lt a b) (nltb→le a b)
  where
    pick : (t : Bool) → (T t → a < b) → (T (not t) → b ≤ a) → (a < b) ⊎ ((b < a) ⊎ (a ≡ b))
    pick true y n = inl (y tt)
    pick false y n = elim (eq-or-lt_of_le (n tt)) [ inl e ↦ inr (inr (sym e)) | inr l ↦ inr (inl l) ]

module _ (j d : ℕ) (J : 0 < j) (D : 0 < d) where
  pub powers_lt : {a b : ℕ} → a < b → a ^ j * d < b ^ j * d
  powers_lt l = mul-lt-mul_of_pos_right (pow-lt-pow_left l (λ e. some e)) D
    where
      some : j ≡ 0 → ⊥
      some e = omega arith

  pub powers_same : (a b : ℕ) → a ^ j * d ≡ b ^ j * d → a ≡ b
  powers_same a b e = go (split_order a b)
    where
      go : (a < b) ⊎ ((b < a) ⊎ (a ≡ b)) → a ≡ b
      go (inl l) = absurd (lt_irrefl (a ^ j * d) (lt_of_lt_of_le (powers_lt l) (le_of_eq (sym e))))
      go (inr (inl l)) = absurd (lt_irrefl (b ^ j * d) (lt_of_lt_of_le (powers_lt l) (le_of_eq e)))
      go (inr (inr h)) = h

pub powers_le : (j d : ℕ) {a b : ℕ} → a ≤ b → a ^ j * d ≤ b ^ j * d
powers_le j d l = mul-le-mul_right d (pow-le-pow_left l j)

-- ---- two fractions in other units: a * l = a' * p and b * l = b' * p
module _ (a b a' b' l p : ℕ) (L : 0 < l) (P : 0 < p) (ea : a * l ≡ a' * p) (eb : b * l ≡ b' * p) where
  pub scaled_le : a' ≤ b' → a ≤ b
  scaled_le h = le_of_mul-le-mul_right (le_trans (le_of_eq ea) (le_trans (mul-le-mul_right p h) (le_of_eq (sym eb)))) L

  pub scaled_eq : a ≡ b → a' ≡ b'
  scaled_eq h = eq_of_mul-eq-mul_right p P _ _ (sym ea ∙ ap (λ (x : ℕ). x * l) h ∙ eb)
