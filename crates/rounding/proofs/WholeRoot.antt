-- `whole_root` is the whole part of the root, and `nearest_root` the nearest whole number. Assumes nothing.
use Rattle.std.proofs.Common.{◌≡◌, refl, sym, ap, ◌∙◌, ℕ, zero, suc, ◌+◌, ◌*◌, ◌/◌, ◌^◌, ◌≤◌, ◌<◌, zero-le, le_trans, le-add_right, le_of_eq, le_refl, lt_of_lt_of_le, lt_irrefl, lt_of_not-le, le_antisymm, le_of_suc-le-suc, mul-le-mul, mul_comm, suc-mul, mul-suc, pow-suc, div-lt_iff_lt-mul, zero-lt-suc, add-one, arith, Bool, true, false, not, cond, T, leb, ltb, leb→le, ltb→lt, nltb→le, lt-ltb, le-ltb}
use native.Mathlib.Nat.{mul-mul-mul_comm}
use lib.Dec.{nleb→lt}
use lib.Ieee.{size}
use lib.Ieee.Digits.{size-lt}
use Rattle.rounding.specs.Root.{whole_root, nearest_root}

-- ---- squares
pub square_suc : (r : ℕ) → suc r * suc r ≡ r * r + 2 * r + 1
square_suc r = let a : suc r * suc r ≡ r * suc r + suc r = suc-mul r (suc r) in let b : r * suc r ≡ r * r + r = mul-suc r r in omega arith

pub square_double : (r : ℕ) → 2 * r * (2 * r) ≡ r * r * 4
square_double r = mul-mul-mul_comm 2 r 2 r ∙ mul_comm 4 (r * r)

pub square_odd : (r : ℕ) → suc (2 * r) * suc (2 * r) ≡ r * r * 4 + 4 * r + 1
square_odd r = let a = square_suc (2 * r) in let b = square_double r in omega arith

-- ---- the whole part of a root, of which there is one
abbrev pub WholePart : ℕ → ℕ → Type 0
WholePart n r = (r * r ≤ n) × (n < suc r * suc r)

no_more : (n q r : ℕ) → q * q ≤ n → n < suc r * suc r → q ≤ r
no_more n q r a b = le_of_suc-le-suc (lt_of_not-le (λ (g : suc r ≤ q). lt_irrefl n (lt_of_lt_of_le b (le_trans (mul-le-mul g g) a))))

one_root : (n q r : ℕ) → WholePart n q → WholePart n r → q ≡ r
one_root n q r a b = le_antisymm (no_more n q r a.0 b.1) (no_more n r q b.0 a.1)

whole_root_lem : (d n : ℕ) → n < 4 ^ d → WholePart n (whole_root d n)
unfolding whole_root
whole_root_lem zero n h = (zero-le, h)
whole_root_lem (suc d) n h = pick (whole_root d (n / 4)) (whole_root_lem d (n / 4) ((div-lt_iff_lt-mul (zero-lt-suc 3)).1 (lt_of_lt_of_le h (le_of_eq (pow-suc 4 d)))))
  where
    pick : (q : ℕ) → WholePart (n / 4) q → WholePart n (cond (leb (suc (2 * q) * suc (2 * q)) n) (suc (2 * q)) (2 * q))
    pick q w =
        go (leb (suc (2 * q) * suc (2 * q)) n) (leb→le (suc (2 * q) * suc (2 * q)) n) (nleb→lt (suc (2 * q) * suc (2 * q)) n)
      where
        go : (b : Bool) → (T b → suc (2 * q) * suc (2 * q) ≤ n) → (T (not b) → n < suc (2 * q) * suc (2 * q)) → WholePart n (cond b (suc (2 * q)) (2 * q))
        go true y m =
            let a = square_suc (suc (2 * q)) in
            let b = square_odd q in
            let e = square_suc q in
            let f = w.1 in
            let g = y tt in
            (g, omega arith)
        go false y m =
            let c = square_double q in
            let f = w.0 in
            let g = m tt in
            (omega arith, g)

two_le_four : (d : ℕ) → 2 ^ d ≤ 4 ^ d
two_le_four zero = le_refl 1
two_le_four (suc d) = let a = two_le_four d in let b = pow-suc 2 d in let c = pow-suc 4 d in omega arith

-- ---- the nearest whole number to a root, from the whole part and what is left
nearest_is : (n r rest : ℕ) → r * r + rest ≡ n → rest ≤ 2 * r → nearest_root n ≡ cond (ltb r rest) (suc r) r
unfolding nearest_root
nearest_is n r rest e h =
    let w : WholePart n r = whole in
    let s : whole_root (size n) n ≡ r = one_root n (whole_root (size n) n) r (whole_root_lem (size n) n (lt_of_lt_of_le (size-lt n) (two_le_four (size n)))) w in
    ap (λ (x : ℕ). cond (ltb (x * x + x) n) (suc x) x) s ∙ go (ltb (r * r + r) n) (ltb r rest) (ltb→lt (r * r + r) n) (nltb→le (r * r + r) n) (ltb→lt r rest) (nltb→le r rest)
  where
    whole : WholePart n r
    whole = let a = square_suc r in (omega arith, omega arith)

    no : r * r + r < n → rest ≤ r → ⊥
    no a b = omega arith

    no' : n ≤ r * r + r → r < rest → ⊥
    no' a b = omega arith

    go : (a b : Bool) → (T a → r * r + r < n) → (T (not a) → n ≤ r * r + r) → (T b → r < rest) → (T (not b) → rest ≤ r) → cond a (suc r) r ≡ cond b (suc r) r
    go true true x y z w = refl
    go false false x y z w = refl
    go true false x y z w = absurd (no (x tt) (w tt))
    go false true x y z w = absurd (no' (y tt) (z tt))

pub nearest_up : (n r rest : ℕ) → r * r + rest ≡ n → rest ≤ 2 * r → r < rest → r + 1 ≡ nearest_root n
nearest_up n r rest e h l = add-one r ∙ sym (nearest_is n r rest e h ∙ ap (λ (b : Bool). cond b (suc r) r) (lt-ltb r rest l))

pub nearest_down : (n r rest : ℕ) → r * r + rest ≡ n → rest ≤ 2 * r → rest ≤ r → r ≡ nearest_root n
nearest_down n r rest e h l = sym (nearest_is n r rest e h ∙ ap (λ (b : Bool). cond b (suc r) r) (le-ltb r rest l))

pub nearest_ge : (n a : ℕ) → a * a ≤ n → a ≤ nearest_root n
unfolding nearest_root
nearest_ge n a h =
    let r = whole_root (size n) n in
    let w : WholePart n r = whole_root_lem (size n) n (lt_of_lt_of_le (size-lt n) (two_le_four (size n))) in
    either (ltb (r * r + r) n) r (no_more n a r h w.1)
  where
    either : (b : Bool) (r : ℕ) → a ≤ r → a ≤ cond b (suc r) r
    either true r l = omega arith
    either false r l = l

-- r * r - r < n ≤ r * r + r
pub nearest_bounds : (n : ℕ) → 0 < n → (n ≤ nearest_root n * nearest_root n + nearest_root n) × (nearest_root n * nearest_root n < n + nearest_root n)
unfolding nearest_root
nearest_bounds n N = go (whole_root (size n) n) (whole_root_lem (size n) n (lt_of_lt_of_le (size-lt n) (two_le_four (size n))))
  where
    low : (q : ℕ) → WholePart n q → q * q < n + q
    low zero w = lt_of_lt_of_le N (le-add_right n 0)
    low (suc q) w = let a = w.0 in omega arith

    go : (q : ℕ) → WholePart n q → (n ≤ cond (ltb (q * q + q) n) (suc q) q * cond (ltb (q * q + q) n) (suc q) q + cond (ltb (q * q + q) n) (suc q) q) × (cond (ltb (q * q + q) n) (suc q) q * cond (ltb (q * q + q) n) (suc q) q < n + cond (ltb (q * q + q) n) (suc q) q)
    go q w = pick (ltb (q * q + q) n) (ltb→lt (q * q + q) n) (nltb→le (q * q + q) n)
      where
        pick : (b : Bool) → (T b → q * q + q < n) → (T (not b) → n ≤ q * q + q) → (n ≤ cond b (suc q) q * cond b (suc q) q + cond b (suc q) q) × (cond b (suc q) q * cond b (suc q) q < n + cond b (suc q) q)
        pick true y m =
            let a = square_suc q in
            let c = w.1 in
            let d = y tt in
            (omega arith, omega arith)
        pick false y m = (m tt, low q w)
