-- A value's bits, from its size in units of the format's smallest value. Assumes nothing.
use Rattle.std.proofs.Common.{◌≡◌, refl, sym, ap, ◌∙◌, subst, ◌⊎◌, inl, inr, ℕ, suc, ◌+◌, ◌-◌, ◌*◌, ◌/◌, ◌^◌, ◌≤◌, ◌<◌, le_trans, le_of_eq, le_refl, lt_of_lt_of_le, lt_of_le_of_lt, lt_of_not-le, not-le_of_lt, lt_irrefl, le_antisymm, eq-or-lt_of_le, mul-one, mul_comm, mul_assoc, mul-div_cancel, mul-le-mul_right, lt_of_mul-lt-mul_right, le_of_mul-le-mul_right, suc-mul, add_assoc, pow-suc, arith, Bool, true, false, not, cond, T, ltb, ltb→lt, nltb→le, lit≤, pow-add, pow_pos, pow_mono, shl_lt, Float}
use Rattle.std.specs.Float.{nan, Format, binary32, binary64}
use native.Mathlib.Nat.{min-eq_left, min-eq_right}
use lib.Pow.{pow-lt}
use lib.Ieee.{inf, fin, prec, emax, low, down, size, odd, units, fits, hid, ones, top, of_bits, to_bits}
use lib.Ieee.Digits.{size-lt, size-le}
use lib.Ieee.Fits.{down_pos, odd-fits, inf-fits}
use lib.Ieee.Exact.{HasValue, odd_sign}
use lib.Ieee.Bits.{of_bits-to_bits}
use Rattle.float.proofs.Fields.{twice, two_more, prec_pos, hid_twice}
use Rattle.rounding.specs.Inner.{pattern}

-- ---- a number's digits
pub size_gt : (n j : ℕ) → 2 ^ j ≤ n → j < size n
size_gt n j h = lt_of_not-le (λ (g : size n ≤ j). not-le_of_lt (lt_of_lt_of_le (size-lt n) (pow_mono g)) h)

pub size_is : (n j : ℕ) → 2 ^ j ≤ n → n < 2 ^ suc j → size n ≡ suc j
size_is n j lo hi = le_antisymm (size-le n (suc j) hi) (size_gt n j lo)

-- of p + k digits k are dropped to keep p, and of p or fewer none
pub drops : (n p k : ℕ) → 0 < p → 2 ^ (p - 1 + k) ≤ n → n < 2 ^ (p + k) → size n - p ≡ k
drops n p k P lo hi = less (size n) (size_is n (p - 1 + k) lo (subst (λ (x : ℕ). n < 2 ^ x) next hi))
  where
    next : p + k ≡ suc (p - 1 + k)
    next = omega arith

    less : (z : ℕ) → z ≡ suc (p - 1 + k) → z - p ≡ k
    less z e = omega arith

pub drops_none : (n p : ℕ) → n < 2 ^ p → size n - p ≡ 0
drops_none n p h = less (size n) (size-le n p h)
  where
    less : (z : ℕ) → z ≤ p → z - p ≡ 0
    less z l = omega arith

pub pow_lt_back : (i p : ℕ) → 2 ^ i < 2 ^ p → i < p
pow_lt_back i p h = lt_of_not-le (λ (g : p ≤ i). lt_irrefl (2 ^ i) (lt_of_lt_of_le h (pow_mono g)))

pub pow_le_back : (i p : ℕ) → 2 ^ i ≤ 2 ^ p → i ≤ p
pow_le_back i p h = back (pow_lt_back i (suc p) (lt_of_le_of_lt h (pow-lt (le_refl (suc p)))))
  where
    back : i < suc p → i ≤ p
    back g = omega arith

-- ---- a value's bits
pub bits_at : (f : Format) (s : Bool) (a : ℕ) (u : Bool) (m : ℕ) (e : _) → HasValue (fin u m e) s a (2 ^ low f)
    → to_bits f (fin u m e) ≡ cond s (top f) 0 + (size a - prec f) * hid f + a / 2 ^ (size a - prec f)
unfolding to_bits
bits_at f s a u m e h =
    ap (λ (x : ℕ). cond u (top f) 0 + (size x - prec f) * hid f + x / 2 ^ (size x - prec f)) (ap (λ (x : ℕ). x / down e) h.1 ∙ mul-div_cancel a (down_pos e))
    ∙ ap (λ (v : Bool). cond v (top f) 0 + (size a - prec f) * hid f + a / 2 ^ (size a - prec f)) h.0

pub of_value : (f : Format) (s : Bool) (a : ℕ) (x : Float) → T (fits f x) → HasValue x s a (2 ^ low f) → of_bits f (cond s (top f) 0 + ((size a - prec f) * hid f + a / 2 ^ (size a - prec f))) ≡ x
of_value f s a nan t h = absurd h
of_value f s a (inf u) t h = absurd h
of_value f s a (fin u m e) t h =
    ap (of_bits f) (sym (add_assoc (cond s (top f) 0) ((size a - prec f) * hid f) (a / 2 ^ (size a - prec f))) ∙ sym (bits_at f s a u m e h)) ∙ of_bits-to_bits f (fin u m e) t

pub of_inf : (f : Format) (s : Bool) → of_bits f (cond s (top f) 0 + ones f * hid f) ≡ inf s
unfolding to_bits
of_inf f s = of_bits-to_bits f (inf s) (inf-fits f s)

-- ---- q * 2 ^ k, with q of p digits at most, and of p where digits are dropped: k * 2 ^ (p - 1) + q are its bits
abbrev Packed : ℕ → ℕ → ℕ → Type 0
Packed p a w = (size a - p) * 2 ^ (p - 1) + a / 2 ^ (size a - p) ≡ w

packed_at : (p a k q h w : ℕ) → size a - p ≡ k → a ≡ q * 2 ^ k → h ≡ 2 ^ (p - 1) → k * h + q ≡ w → Packed p a w
packed_at p a k q h w e v i r =
    ap (λ (z : ℕ). z * 2 ^ (p - 1) + a / 2 ^ z) e
    ∙ ap (λ (z : ℕ). k * 2 ^ (p - 1) + z / 2 ^ k) v
    ∙ ap (λ (z : ℕ). k * 2 ^ (p - 1) + z) (mul-div_cancel q (pow_pos k))
    ∙ ap (λ (z : ℕ). k * z + q) (sym i)
    ∙ r

full : (p q k : ℕ) → 0 < p → 2 ^ (p - 1) ≤ q → q < 2 ^ p → Packed p (q * 2 ^ k) (k * 2 ^ (p - 1) + q)
full p q k P lo hi =
    packed_at p (q * 2 ^ k) k q (2 ^ (p - 1)) (k * 2 ^ (p - 1) + q)
    (drops (q * 2 ^ k) p k P (le_trans (le_of_eq (pow-add 2 (p - 1) k)) (mul-le-mul_right (2 ^ k) lo)) (shl_lt p k hi))
    refl refl refl

flat : (p q : ℕ) → q < 2 ^ p → Packed p (q * 2 ^ 0) (0 * 2 ^ (p - 1) + q)
flat p q hi = packed_at p (q * 2 ^ 0) 0 q (2 ^ (p - 1)) (0 * 2 ^ (p - 1) + q) (drops_none (q * 2 ^ 0) p (subst (λ (x : ℕ). x < 2 ^ p) (sym (mul-one q)) hi)) refl refl refl

carried : (p q k : ℕ) → 0 < p → q ≡ 2 ^ p → Packed p (q * 2 ^ k) (k * 2 ^ (p - 1) + q)
carried p q k P e =
    let h = 2 ^ (p - 1) in
    let a : q * 2 ^ k ≡ h * 2 ^ suc k = ap (λ (x : ℕ). x * 2 ^ k) (e ∙ twice p P) ∙ mul_assoc h 2 (2 ^ k) ∙ ap (λ (x : ℕ). h * x) (mul_comm 2 (2 ^ k) ∙ sym (pow-suc 2 k)) in
    let b : q * 2 ^ k ≡ 2 ^ (p + k) = ap (λ (x : ℕ). x * 2 ^ k) e ∙ sym (pow-add 2 p k) in
    packed_at p (q * 2 ^ k) (suc k) h h (k * h + q)
    (carry (size (q * 2 ^ k)) (size_is (q * 2 ^ k) (p + k) (le_of_eq (sym b)) (lt_of_le_of_lt (le_of_eq b) (pow-lt (le_refl (suc (p + k)))))))
    a refl (carry_bits (suc k * h) (k * h) h q (suc-mul k h) (e ∙ twice p P))
  where
    carry : (z : ℕ) → z ≡ suc (p + k) → z - p ≡ suc k
    carry z e = omega arith

    carry_bits : (x y h q : ℕ) → x ≡ y + h → q ≡ h * 2 → x + h ≡ y + q
    carry_bits x y h q a b = omega arith

pub packed : (p q k : ℕ) → 0 < p → q ≤ 2 ^ p → (k ≡ 0) ⊎ (2 ^ (p - 1) ≤ q) → Packed p (q * 2 ^ k) (k * 2 ^ (p - 1) + q)
packed p q k P hi lo = go (eq-or-lt_of_le hi) lo
  where
    go : (q ≡ 2 ^ p) ⊎ (q < 2 ^ p) → (k ≡ 0) ⊎ (2 ^ (p - 1) ≤ q) → Packed p (q * 2 ^ k) (k * 2 ^ (p - 1) + q)
    go (inl e) l = carried p q k P e
    go (inr g) (inl z) = subst (λ (x : ℕ). Packed p (q * 2 ^ x) (x * 2 ^ (p - 1) + q)) (sym z) (flat p q g)
    go (inr g) (inr l) = full p q k P l g

-- ---- where the largest values end: at `ones` times `hid` in bits, at h * 2 ^ (o - 1) in units
below_end : (o h q k : ℕ) → 2 ≤ o → 0 < h → q ≤ h * 2 → (k ≡ 0) ⊎ (h ≤ q) → q * 2 ^ k < 2 ^ (o - 1) * h → k * h + q ≤ o * h
below_end o h q k O H hi lo l = join (k * h) (o * h) (two_more k o h (small lo))
  where
    join : (x y : ℕ) → x + h * 2 ≤ y → x + q ≤ y
    join x y e = omega arith

    room : k < o - 1 → suc (suc k) ≤ o
    room g = omega arith

    start : k ≡ 0 → suc (suc k) ≤ o
    start e = omega arith

    small : (k ≡ 0) ⊎ (h ≤ q) → suc (suc k) ≤ o
    small (inl z) = start z
    small (inr g) = room (pow_lt_back k (o - 1) (lt_of_mul-lt-mul_right h (lt_of_le_of_lt (le_trans (le_of_eq (mul_comm (2 ^ k) h)) (mul-le-mul_right (2 ^ k) g)) l)))

past_end : (o h q k : ℕ) → 2 ≤ o → 0 < h → q ≤ h * 2 → (k ≡ 0) ⊎ (h ≤ q) → 2 ^ (o - 1) * h ≤ q * 2 ^ k → o * h ≤ k * h + q
past_end o h q k O H hi lo l = go (eq-or-lt_of_le near)
  where
    room : o - 1 ≤ suc k → o ≤ suc (suc k)
    room g = omega arith

    near : o ≤ suc (suc k)
    near =
        room
        (pow_le_back (o - 1) (suc k)
        (le_of_mul-le-mul_right
        (le_trans l (le_trans (mul-le-mul_right (2 ^ k) hi) (le_of_eq (mul_assoc h 2 (2 ^ k) ∙ mul_comm h (2 * 2 ^ k) ∙ ap (λ (x : ℕ). x * h) (mul_comm 2 (2 ^ k) ∙ sym (pow-suc 2 k))))))
        H))

    end : o ≡ suc (suc k) → o * h ≤ k * h + q
    end e =
        let i : o - 1 ≡ suc k = omega arith in
        let a : 2 ^ suc k * h ≤ q * 2 ^ k = subst (λ (x : ℕ). 2 ^ x * h ≤ q * 2 ^ k) i l in
        let b : h * 2 * 2 ^ k ≤ q * 2 ^ k = le_trans (le_of_eq (mul_assoc h 2 (2 ^ k) ∙ mul_comm h (2 * 2 ^ k) ∙ ap (λ (x : ℕ). x * h) (mul_comm 2 (2 ^ k) ∙ sym (pow-suc 2 k)))) a in
        let c : h * 2 ≤ q = le_of_mul-le-mul_right b (pow_pos k) in
        let d : o * h ≡ k * h + h + h = ap (λ (x : ℕ). x * h) e ∙ suc-mul (suc k) h ∙ ap (λ (x : ℕ). x + h) (suc-mul k h) in
        omega arith

    some : k ≡ 0 → o ≤ suc k → ⊥
    some z g = omega arith

    inner : o ≤ suc k → (k ≡ 0) ⊎ (h ≤ q) → o * h ≤ k * h + q
    inner g (inl z) = absurd (some z g)
    inner g (inr w) =
        let a : o * h ≤ suc k * h = mul-le-mul_right h g in
        let b : suc k * h ≡ k * h + h = suc-mul k h in
        omega arith

    go : (o ≡ suc (suc k)) ⊎ (o < suc (suc k)) → o * h ≤ k * h + q
    go (inl e) = end e
    go (inr g) = inner (less g) lo
      where
        less : o < suc (suc k) → o ≤ suc k
        less g = omega arith

-- ---- of a format
some_ones : (f : Format) → 2 ≤ ones f
some_ones binary32 = lit≤ tt
some_ones binary64 = lit≤ tt

end_is : (f : Format) → 2 ^ (low f + suc (emax f)) ≡ 2 ^ (ones f - 1) * hid f
end_is binary32 = refl
end_is binary64 = refl

pub pack : (f : Format) (s : Bool) (q k : ℕ) → q ≤ 2 ^ prec f → (k ≡ 0) ⊎ (hid f ≤ q) → of_bits f (cond s (top f) 0 + pattern f q k) ≡ units f s q k
unfolding units
pack f s q k hi lo = go (ltb (q * 2 ^ k) (2 ^ (low f + suc (emax f)))) (ltb→lt (q * 2 ^ k) (2 ^ (low f + suc (emax f)))) (nltb→le (q * 2 ^ k) (2 ^ (low f + suc (emax f))))
  where
    hi' : q ≤ hid f * 2
    hi' = le_trans hi (le_of_eq (hid_twice f))

    go : (b : Bool) → (T b → q * 2 ^ k < 2 ^ (low f + suc (emax f))) → (T (not b) → 2 ^ (low f + suc (emax f)) ≤ q * 2 ^ k)
        → of_bits f (cond s (top f) 0 + pattern f q k) ≡ cond b (odd (suc (prec f)) s q k (low f)) (inf s)
    go true l g =
        ap (λ (x : ℕ). of_bits f (cond s (top f) 0 + x))
        (min-eq_left (below_end (ones f) (hid f) q k (some_ones f) (pow_pos (prec f - 1)) hi' lo (subst (λ (x : ℕ). q * 2 ^ k < x) (end_is f) (l tt)))
        ∙ sym (packed (prec f) q k (prec_pos f) hi lo))
        ∙ of_value f s (q * 2 ^ k) (odd (suc (prec f)) s q k (low f)) (odd-fits f (suc (prec f)) s q k (lt_of_le_of_lt hi (pow-lt (le_refl (suc (prec f))))) hi (l tt)) (odd_sign (suc (prec f)) s q k (low f))
    go false l g =
        ap (λ (x : ℕ). of_bits f (cond s (top f) 0 + x))
        (min-eq_right (past_end (ones f) (hid f) q k (some_ones f) (pow_pos (prec f - 1)) hi' lo (subst (λ (x : ℕ). x ≤ q * 2 ^ k) (end_is f) (g tt))))
        ∙ of_inf f s
