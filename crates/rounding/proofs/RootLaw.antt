-- The root that the digits give is the format's: one law for both formats. Assumes nothing.
use Rattle.std.proofs.Common.{◌≡◌, sym, ap, ◌∙◌, subst, ◌⊎◌, inl, inr, ℕ, zero, suc, ◌+◌, ◌-◌, ◌*◌, ◌/◌, ◌%◌, ◌^◌, ◌≤◌, ◌<◌, le_trans, lt_trans, lt_of_lt_of_le, lt_irrefl, pos_of_ne-zero, le-add_right, zero-add, add-zero, zero-mul, mul_comm, mul_assoc, mul-pos, mul-div_cancel, div-add-mod', div-lt_iff_lt-mul, mod-eq_of_lt, arith, Bool, true, false, true≢false, pow-add, pow_pos, Float}
use Rattle.std.specs.Float.{nan, Format}
use borrow.Author.Tests.{lt-leb}
use lib.Ieee.{inf, fin, prec, low, up, down, size, units, hid, ones, top, of_bits, of_fields}
use lib.Ieee.Fits.{down_pos}
use lib.Ieee.Exact.{HasValue}
use Rattle.float.proofs.Fields.{suc_pred}
use Rattle.float.proofs.Patterns.{inf_below_top}
use Rattle.rounding.specs.Root.{sqrt_of, root_units, nearest_root}
use Rattle.rounding.specs.Inner.{ScaledRoot, pattern}
use Rattle.rounding.proofs.Pack.{pack}
use Rattle.rounding.proofs.Rounding.{low_field, high_field}

-- ---- a root, from the value of x in units
pub root_units_lem : (f : Format) (n r k : ℕ) → k ≡ (size n + 1) / 2 - prec f → r ≡ nearest_root (n / 4 ^ k) → root_units f n ≡ units f false r k
unfolding root_units
root_units_lem f n r k e h = ap (λ (z : ℕ). units f false (nearest_root (n / 4 ^ z)) z) (sym e) ∙ ap (λ (z : ℕ). units f false z k) (sym h)

pub sqrt_of_lem : (f : Format) (x : Float) (q k : ℕ) → HasValue x false (q * 2 ^ k) (2 ^ low f) → 0 < q → sqrt_of f x ≡ root_units f (q * 2 ^ (low f + k))
unfolding sqrt_of
sqrt_of_lem f nan q k h Q = absurd h
sqrt_of_lem f (inf s) q k h Q = absurd h
sqrt_of_lem f (fin s zero e) q k h Q = absurd (lt_irrefl 0 (subst (λ (x : ℕ). 0 < x) (sym h.1 ∙ ap (λ (x : ℕ). x * 2 ^ low f) (zero-mul (up e)) ∙ zero-mul (2 ^ low f)) (mul-pos (mul-pos Q (pow_pos k)) (down_pos e))))
sqrt_of_lem f (fin true (suc m) e) q k h Q = absurd (true≢false h.0)
sqrt_of_lem f (fin false (suc m) e) q k h Q =
    ap (λ (z : ℕ). root_units f (z * 2 ^ low f)) (ap (λ (z : ℕ). z / down e) h.1 ∙ mul-div_cancel (q * 2 ^ k) (down_pos e))
    ∙ ap (root_units f) (mul_assoc q (2 ^ k) (2 ^ low f) ∙ ap (λ (z : ℕ). q * z) (mul_comm (2 ^ k) (2 ^ low f) ∙ sym (pow-add 2 (low f) k)))

sqrt_law : (f : Format) (x : Float) (q k r K : ℕ) → HasValue x false (q * 2 ^ k) (2 ^ low f) → 0 < q → ScaledRoot q (low f + k) (prec f) r K → of_bits f (pattern f r K) ≡ sqrt_of f x
sqrt_law f x q k r K h Q s =
    ap (of_bits f) (sym (zero-add (pattern f r K)))
    ∙ pack f false r K s.high (inr s.low)
    ∙ sym (sqrt_of_lem f x q k h Q ∙ root_units_lem f (q * 2 ^ (low f + k)) r K s.places s.nearest)

-- ---- of a pattern that is not negative
fields_of : (f : Format) (b : ℕ) → b < top f → of_bits f b ≡ of_fields f false (b / hid f) (b % hid f)
unfolding of_bits
fields_of f b h = ap (λ (s : Bool). of_fields f s (b % top f / hid f) (b % hid f)) (lt-leb (top f) b h) ∙ ap (λ (z : ℕ). of_fields f false (z / hid f) (b % hid f)) (mod-eq_of_lt h)

root_subnormal : (f : Format) (b r K : ℕ) → b < top f → b / hid f ≡ 0 → 0 < b % hid f → ScaledRoot (b % hid f) (low f) (prec f) r K → of_bits f (pattern f r K) ≡ sqrt_of f (of_bits f b)
root_subnormal f b r K h z p s =
    sqrt_law f (of_fields f false 0 (b % hid f)) (b % hid f) 0 r K (low_field f false (b % hid f)) p (subst (λ (j : ℕ). ScaledRoot (b % hid f) j (prec f) r K) (sym (add-zero (low f))) s)
    ∙ ap (sqrt_of f) (sym (fields_of f b h ∙ ap (λ (x : ℕ). of_fields f false x (b % hid f)) z))

root_normal : (f : Format) (b r K : ℕ) → b < top f → 0 < b / hid f → b / hid f < ones f → ScaledRoot (hid f + b % hid f) (low f + (b / hid f - 1)) (prec f) r K → of_bits f (pattern f r K) ≡ sqrt_of f (of_bits f b)
root_normal f b r K h p l s =
    let i = suc_pred (b / hid f) p in
    sqrt_law f (of_fields f false (suc (b / hid f - 1)) (b % hid f)) (hid f + b % hid f) (b / hid f - 1) r K
    (high_field f false (b / hid f - 1) (b % hid f) (subst (λ (x : ℕ). x < ones f) (sym i) l))
    (lt_of_lt_of_le (pow_pos (prec f - 1)) (le-add_right (hid f) (b % hid f))) s
    ∙ ap (sqrt_of f) (sym (fields_of f b h ∙ ap (λ (x : ℕ). of_fields f false x (b % hid f)) (sym i)))

-- ---- the two ways of the code, by the field of the pattern b; r are the digits of the root, and k of its places are dropped
abbrev pub Ways : Format → ℕ → ℕ → ℕ → Type 0
Ways f b r k = ((b / hid f ≡ 0) × ScaledRoot (b % hid f) (low f) (prec f) r k) ⊎ ((b / hid f ≡ 0 → ⊥) × ScaledRoot (hid f + b % hid f) (low f + (b / hid f - 1)) (prec f) r k)

-- where they meet
abbrev pub Found : Format → ℕ → ℕ → ℕ → Type 0
Found f b r k = (of_bits f (pattern f r k) ≡ sqrt_of f (of_bits f b)) × (k ≤ low f + ones f) × (r ≤ 2 ^ prec f)

pub found : (f : Format) (b r k : ℕ) → 0 < b → b < ones f * hid f → Ways f b r k → Found f b r k
found f b r k B I (inl w) = (root_subnormal f b r k (lt_trans I (inf_below_top f)) w.0 some w.1, le_trans w.1.little (le-add_right (low f) (ones f)), w.1.high)
  where
    some : 0 < b % hid f
    some = omega (arith, div-add-mod' b (hid f), ap (λ (x : ℕ). x * hid f) w.0 ∙ zero-mul (hid f))
found f b r k B I (inr w) = (root_normal f b r k (lt_trans I (inf_below_top f)) (pos_of_ne-zero w.0) small w.1, near (low f) (b / hid f) (ones f) w.1.little small, w.1.high)
  where
    small : b / hid f < ones f
    small = (div-lt_iff_lt-mul (pow_pos (prec f - 1))).1 I

    near : (l x o : ℕ) → k ≤ l + (x - 1) → x < o → k ≤ l + o
    near l x o h g = omega arith
