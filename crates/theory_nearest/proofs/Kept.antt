-- One law for every rounding: where r is the whole number nearest to t in units of 2 ^ k of the format's smallest values, a tie going to the even one, and k drops no more digits than it has to,
-- r * 2 ^ k units are the format's value nearest to t. As in specs/Nearest.antt, t ^ j = n / d. Assumes nothing.
use Rattle.std.proofs.Common.{◌≡◌, sym, ap, ◌∙◌, subst, ◌⊎◌, inl, inr, Bool, true, false, not, cond, ℕ, zero, suc, ◌+◌, ◌-◌, ◌*◌, ◌%◌, ◌^◌, ◌≤◌, ◌<◌, zero-le, le_trans, le_of_eq, le_of_lt, le_antisymm, eq-or-lt_of_le, lt_of_lt_of_le, lt_of_le_of_lt, lt_irrefl, ne_of_lt, add_left_cancel, mul-one, mul_comm, mul_assoc, mul-le-mul_right, add-mul, one-mul, zero-mul, zero-lt-suc, arith, T, ltb, ltb→lt, nltb→le, pow-add, pow_pos, pow_mono, Float}
use Rattle.std.specs.Float.{nan, Format, binary32, binary64}
use mathlib.Core.Bool.{beq}
use lib.Pow.{pow-lt}
use lib.Ieee.{inf, fin, prec, emax, low, hid, top, fits, odd, units}
use lib.Ieee.Exact.{HasValue, odd_sign}
use lib.Ieee.Bits.{of_bits-fits}
use Rattle.rounding.specs.Inner.{pattern}
use Rattle.theory_nearest.specs.Nearest.{Nearest, Nearer, under, signed, last_digit}
use Rattle.float.proofs.Fields.{prec_pos}
use Rattle.rounding.proofs.Pack.{pack, pow_lt_back}
use Rattle.theory_nearest.proofs.Powers.{mul_pow, split_order, powers_lt, powers_le, powers_same}
use Rattle.theory_nearest.proofs.Magnitude.{Mag, UnitSize, unit_size, end_of, inf_mag, beq_refl}
use Rattle.theory_nearest.proofs.Beside.{Beside, nearer}
use Rattle.theory_nearest.proofs.OtherSign.{of_one_sign}
use Rattle.theory_nearest.proofs.Grid.{next_up, next_down, not_past, power_even, even_digit, odd_digit}

pub record Kept (f : Format) (j n d r k : ℕ) : Type 0 where
  -- r has `prec` digits, or fewer where none is dropped; it may have been rounded up to 2 ^ prec
  pub least : (k ≡ 0) ⊎ (hid f ≤ r)
  pub most : r ≤ 2 ^ prec f
  -- where digits are dropped, t itself has `prec` digits before them
  pub start : (k ≡ 0) ⊎ ((hid f * 2 ^ k) ^ j * d ≤ n * (2 ^ low f) ^ j)
  -- t is at most r + 1/2, and at least r - 1/2
  pub up : n * (2 * 2 ^ low f) ^ j ≤ (suc (2 * r) * 2 ^ k) ^ j * d
  pub down : ((2 * r - 1) * 2 ^ k) ^ j * d ≤ n * (2 * 2 ^ low f) ^ j
  pub up_even : n * (2 * 2 ^ low f) ^ j ≡ (suc (2 * r) * 2 ^ k) ^ j * d → r % 2 ≡ 0
  pub down_even : 0 < r → n * (2 * 2 ^ low f) ^ j ≡ ((2 * r - 1) * 2 ^ k) ^ j * d → r % 2 ≡ 0

-- ---- a value that t is not below, and a smaller one: t is past their mean
past_mean : (j n d L Y Z : ℕ) → 0 < j → 0 < d → Y ^ j * d ≤ n * L ^ j → Z < Y → (Y + Z) ^ j * d < n * (2 * L) ^ j
past_mean j n d L Y Z J D h l =
    let a : Y + Z < 2 * Y = omega arith in
    lt_of_lt_of_le (powers_lt j d J D a)
    (le_trans (le_of_eq (ap (λ (x : ℕ). x * d) (mul_pow 2 Y j) ∙ mul_assoc (2 ^ j) (Y ^ j) d ∙ mul_comm (2 ^ j) (Y ^ j * d)))
    (le_trans (mul-le-mul_right (2 ^ j) h) (le_of_eq (mul_assoc n (L ^ j) (2 ^ j) ∙ ap (λ (x : ℕ). n * x) (mul_comm (L ^ j) (2 ^ j) ∙ sym (mul_pow 2 L j))))))

-- ---- numbers of a format
pub room : (f : Format) → 2 ^ prec f < end_of f
room binary32 = pow-lt {i = 24} {j = 277} (omega arith)
room binary64 = pow-lt {i = 53} {j = 2098} (omega arith)

some_hid : (f : Format) → 1 < hid f
some_hid binary32 = pow-lt {i = 0} {j = 23} (omega arith)
some_hid binary64 = pow-lt {i = 0} {j = 52} (omega arith)

value→mag : (f : Format) (s : Bool) (z : Float) (a : ℕ) → HasValue z s a (2 ^ low f) → Mag f z a
value→mag f s nan a h = absurd h
value→mag f s (inf u) a h = absurd h
value→mag f s (fin u m e) a h = h.1

value→signed : (s : Bool) (z : Float) (a c : ℕ) → HasValue z s a c → T (signed s z)
value→signed s nan a c h = absurd h
value→signed s (inf u) a c h = absurd h
value→signed s (fin u m e) a c h = subst (λ (x : Bool). T (beq x s)) (sym h.0) (beq_refl s)

-- ---- the value y of r * 2 ^ k units: it has that magnitude, or it is an infinity
pub record Rounded (f : Format) (s : Bool) (r k : ℕ) (y : Float) : Type 0 where
  pub held : T (fits f y)
  pub sign : T (signed s y)
  pub inner : r * 2 ^ k ≤ end_of f → Mag f y (r * 2 ^ k)
  pub outer : end_of f < r * 2 ^ k → Mag f y (end_of f)

pub rounded : (f : Format) (s : Bool) (r k : ℕ) → r ≤ 2 ^ prec f → (k ≡ 0) ⊎ (hid f ≤ r) → Rounded f s r k (units f s r k)
unfolding units
rounded f s r k most least = go (ltb (r * 2 ^ k) (end_of f)) (ltb→lt (r * 2 ^ k) (end_of f)) (nltb→le (r * 2 ^ k) (end_of f)) (subst (λ (y : Float). T (fits f y)) (pack f s r k most least) (of_bits-fits f (cond s (top f) 0 + pattern f r k)))
  where
    y : Float
    y = odd (suc (prec f)) s r k (low f)

    go : (b : Bool) → (T b → r * 2 ^ k < end_of f) → (T (not b) → end_of f ≤ r * 2 ^ k) → T (fits f (cond b y (inf s))) → Rounded f s r k (cond b y (inf s))
    go true inside past t =
        let v = odd_sign (suc (prec f)) s r k (low f) in
        record { held = t; sign = value→signed s y (r * 2 ^ k) (2 ^ low f) v; inner = λ h. value→mag f s y (r * 2 ^ k) v; outer = λ l. absurd (lt_irrefl (end_of f) (lt_of_lt_of_le l (le_of_lt (inside tt)))) }
    go false inside past t = record { held = t; sign = beq_refl s; inner = λ h. inf_mag f s ∙ ap (λ (x : ℕ). x * 1) (le_antisymm (past tt) h); outer = λ l. inf_mag f s }

-- ---- the law
module _ (f : Format) (s : Bool) (j n d r k : ℕ) (J : 0 < j) (D : 0 < d) (h : Kept f j n d r k) where
  abbrev L : ℕ
  L = 2 ^ low f

  abbrev t : ℕ
  t = n * (2 * L) ^ j

  abbrev Y : ℕ
  Y = r * 2 ^ k

  -- the two midpoints, in half units
  above_it : suc (2 * r) * 2 ^ k ≡ Y + suc r * 2 ^ k
  above_it = ap (λ (x : ℕ). x * 2 ^ k) (halves r) ∙ add-mul r (suc r) (2 ^ k)
    where
      halves : (r : ℕ) → suc (2 * r) ≡ r + suc r
      halves r = omega arith

  below_it : 0 < r → (2 * r - 1) * 2 ^ k ≡ Y + (r - 1) * 2 ^ k
  below_it l = ap (λ (x : ℕ). x * 2 ^ k) (halves r l) ∙ add-mul r (r - 1) (2 ^ k)
    where
      halves : (r : ℕ) → 0 < r → 2 * r - 1 ≡ r + (r - 1)
      halves r l = omega arith

  -- where r is the least with its digits, t is no less than r
  abbrev Floor : Type 0
  Floor = Y ^ j * d ≤ n * L ^ j

  floor_or_more : ((k ≡ 0) ⊎ (hid f < r)) ⊎ Floor
  floor_or_more = go h.least h.start
    where
      go : (k ≡ 0) ⊎ (hid f ≤ r) → (k ≡ 0) ⊎ ((hid f * 2 ^ k) ^ j * d ≤ n * L ^ j) → ((k ≡ 0) ⊎ (hid f < r)) ⊎ Floor
      go (inl e) b = inl (inl e)
      go (inr l) (inl e) = inl (inl e)
      go (inr l) (inr g) = elim (eq-or-lt_of_le l) [ inl e ↦ inr (subst (λ (x : ℕ). (x * 2 ^ k) ^ j * d ≤ n * L ^ j) e g) | inr m ↦ inl (inr m) ]

  module _ (y z : Float) (py : T (signed s y)) (pz : T (signed s z)) (fine : Y ≤ end_of f) (hy : Mag f y Y) (w : UnitSize f z) where
    abbrev Z : ℕ
    Z = w.m * 2 ^ w.i

    y_even : r % 2 ≡ 0 → last_digit f y ≡ 0
    y_even e = even_digit f s r k h.most h.least y py hy e

    -- ---- a larger value
    up_far : Y < Z → suc (2 * r) * 2 ^ k ≤ Y + Z
    up_far l = le_trans (le_of_eq above_it) (more (next_up (prec f) w.m w.i r k (prec_pos f) w.short h.least l))
      where
        more : suc r * 2 ^ k ≤ Z → Y + suc r * 2 ^ k ≤ Y + Z
        more g = omega arith

    up_side : Y < Z → t ≤ (Y + Z) ^ j * d
    up_side l = le_trans h.up (powers_le j d (up_far l))

    not_carried : Z ≡ suc r * 2 ^ k → suc r ≤ 2 ^ prec f
    not_carried e = elim (eq-or-lt_of_le h.most) [ inl g ↦ absurd (not_past (prec f) w.m w.i k (prec_pos f) w.short (e ∙ ap (λ (x : ℕ). suc x * 2 ^ k) g)) | inr l ↦ l ]

    not_end : r % 2 ≡ 0 → suc r * 2 ^ k ≡ end_of f → ⊥
    not_end e g = go r h.least e g
      where
        go : (r : ℕ) → (k ≡ 0) ⊎ (hid f ≤ r) → r % 2 ≡ 0 → suc r * 2 ^ k ≡ end_of f → ⊥
        go zero (inl a) e g = one_end (sym (ap (λ (x : ℕ). 1 * 2 ^ x) a) ∙ g)
          where
            one_end : 1 ≡ end_of f → ⊥
            one_end v = ne_of_lt (lt_of_le_of_lt (pow_pos (prec f)) (room f)) v
        go zero (inr a) e g = lt_irrefl 1 (lt_of_lt_of_le (some_hid f) (le_trans a zero-le))
        go (suc r) b e g = uneven (suc r) e (power_even (suc (suc r)) k (low f + suc (emax f)) (two r) g)
          where
            two : (r : ℕ) → 1 < suc (suc r)
            two r = omega arith

            uneven : (r : ℕ) → r % 2 ≡ 0 → suc r % 2 ≡ 0 → ⊥
            uneven r a b = omega arith

    up_tie : Y < Z → t ≡ (Y + Z) ^ j * d → (last_digit f y ≡ 0) × (last_digit f z ≡ 1)
    up_tie l e =
        let a : t ≡ (suc (2 * r) * 2 ^ k) ^ j * d = le_antisymm h.up (le_trans (powers_le j d (up_far l)) (le_of_eq (sym e))) in
        let b : suc (2 * r) * 2 ^ k ≡ Y + Z = powers_same j d J D (suc (2 * r) * 2 ^ k) (Y + Z) (sym a ∙ e) in
        let c : r % 2 ≡ 0 = h.up_even a in
        let g : Z ≡ suc r * 2 ^ k = add_left_cancel Y (sym b ∙ above_it) in
        (y_even c, odd_digit f s (suc r) k (not_carried g) (more h.least) z pz (w.mag ∙ ap (λ (x : ℕ). x * under z) g) (not_end c) (next r c))
      where
        next : (r : ℕ) → r % 2 ≡ 0 → suc r % 2 ≡ 1
        next r e = omega arith

        more : (k ≡ 0) ⊎ (hid f ≤ r) → (k ≡ 0) ⊎ (hid f ≤ suc r)
        more (inl v) = inl v
        more (inr v) = inr (omega arith)

    -- ---- a smaller value
    down_far : (k ≡ 0) ⊎ (hid f < r) → Z < Y → 0 < r → Y + Z ≤ (2 * r - 1) * 2 ^ k
    down_far b l R = le_trans (more (next_down (prec f) w.m w.i r k (prec_pos f) w.short b l)) (le_of_eq (sym (below_it R)))
      where
        more : Z + 2 ^ k ≤ Y → Y + Z ≤ Y + (r - 1) * 2 ^ k
        more g = let c : r * 2 ^ k ≡ (r - 1) * 2 ^ k + 2 ^ k = ap (λ (x : ℕ). x * 2 ^ k) (one_more r R) ∙ add-mul (r - 1) 1 (2 ^ k) ∙ ap (λ (x : ℕ). (r - 1) * 2 ^ k + x) (one-mul (2 ^ k)) in omega arith
          where
            one_more : (r : ℕ) → 0 < r → r ≡ r - 1 + 1
            one_more r l = omega arith

    some_r : Z < Y → 0 < r
    some_r l = go r l
      where
        go : (r : ℕ) → Z < r * 2 ^ k → 0 < r
        go zero l = absurd (lt_irrefl 0 (lt_of_le_of_lt zero-le (lt_of_lt_of_le l (le_of_eq (zero-mul (2 ^ k))))))
        go (suc r) l = zero-lt-suc r

    down_side : ((k ≡ 0) ⊎ (hid f < r)) ⊎ Floor → Z < Y → (Y + Z) ^ j * d ≤ t
    down_side (inl b) l = le_trans (powers_le j d (down_far b l (some_r l))) h.down
    down_side (inr g) l = le_of_lt (past_mean j n d L Y Z J D g l)

    down_tie : ((k ≡ 0) ⊎ (hid f < r)) ⊎ Floor → Z < Y → t ≡ (Y + Z) ^ j * d → (last_digit f y ≡ 0) × (last_digit f z ≡ 1)
    down_tie (inr g) l e = absurd (ne_of_lt (past_mean j n d L Y Z J D g l) (sym e))
    down_tie (inl b) l e =
        let R = some_r l in
        let a : t ≡ ((2 * r - 1) * 2 ^ k) ^ j * d = le_antisymm (le_trans (le_of_eq e) (powers_le j d (down_far b l R))) h.down in
        let c : Y + Z ≡ (2 * r - 1) * 2 ^ k = powers_same j d J D (Y + Z) ((2 * r - 1) * 2 ^ k) (sym e ∙ a) in
        let v : r % 2 ≡ 0 = h.down_even R a in
        let g : Z ≡ (r - 1) * 2 ^ k = add_left_cancel Y (c ∙ below_it R) in
        (y_even v, odd_digit f s (r - 1) k (less h.most) (more b) z pz (w.mag ∙ ap (λ (x : ℕ). x * under z) g) (λ u. lt_irrefl (end_of f) (lt_of_lt_of_le (lt_of_le_of_lt (le_of_eq (sym (g ∙ u))) l) fine)) (before r R v))
      where
        before : (r : ℕ) → 0 < r → r % 2 ≡ 0 → (r - 1) % 2 ≡ 1
        before r l e = omega arith

        less : r ≤ 2 ^ prec f → r - 1 ≤ 2 ^ prec f
        less v = omega arith

        more : (k ≡ 0) ⊎ (hid f < r) → (k ≡ 0) ⊎ (hid f ≤ r - 1)
        more (inl v) = inl v
        more (inr v) = inr (omega arith)

    inner_beside : Beside f j n d y z Y Z
    inner_beside = record { below = up_side; above = down_side floor_or_more; tie = λ ne e. elim (split_order Y Z) [ inl l ↦ up_tie l e | inr v ↦ elim v [ inl l ↦ down_tie floor_or_more l e | inr u ↦ absurd (ne u) ] ] }

  -- ---- past the format's end: t is there too
  end_floor : end_of f < Y → end_of f ^ j * d ≤ n * L ^ j
  end_floor l = go h.start
    where
      high : Y ≤ 2 ^ (prec f + k)
      high = le_trans (mul-le-mul_right (2 ^ k) h.most) (le_of_eq (sym (pow-add 2 (prec f) k)))

      short : low f + suc (emax f) ≤ prec f - 1 + k
      short = let a : low f + suc (emax f) < prec f + k = pow_lt_back (low f + suc (emax f)) (prec f + k) (lt_of_lt_of_le l high) in let p = prec_pos f in omega arith

      go : (k ≡ 0) ⊎ ((hid f * 2 ^ k) ^ j * d ≤ n * L ^ j) → end_of f ^ j * d ≤ n * L ^ j
      go (inl e) = absurd (lt_irrefl (end_of f) (lt_of_lt_of_le l (le_trans (le_of_eq (ap (λ (x : ℕ). r * 2 ^ x) e ∙ mul-one r)) (le_trans h.most (le_of_lt (room f))))))
      go (inr g) = le_trans (powers_le j d (le_trans (pow_mono short) (le_of_eq (pow-add 2 (prec f - 1) k)))) g

  outer_beside : (y z : Float) → end_of f < Y → (w : UnitSize f z) → Beside f j n d y z (end_of f) (w.m * 2 ^ w.i)
  outer_beside y z l w =
      let E = end_of f in
      let Z = w.m * 2 ^ w.i in
      let far : Z < E → (E + Z) ^ j * d < t = λ v. past_mean j n d L E Z J D (end_floor l) v in
      record {
        below = λ v. absurd (lt_irrefl E (lt_of_lt_of_le v w.inside));
        above = λ v. le_of_lt (far v);
        tie = λ ne e. elim (eq-or-lt_of_le w.inside) [ inl u ↦ absurd (ne (sym u)) | inr v ↦ absurd (ne_of_lt (far v) (sym e)) ];
      }

  pub kept_nearest : Nearest f s j n d (units f s r k)
  kept_nearest =
      let v = rounded f s r k h.most h.least in
      of_one_sign f s j n d y (λ z tz pz. near v z pz (unit_size f s z tz pz) (ltb (end_of f) Y) (ltb→lt (end_of f) Y) (nltb→le (end_of f) Y)) v.held v.sign
    where
      y : Float
      y = units f s r k

      near : Rounded f s r k y → (z : Float) → T (signed s z) → UnitSize f z → (b : Bool) → (T b → end_of f < Y) → (T (not b) → Y ≤ end_of f) → Nearer f j n d y z
      near v z pz w true past inside = nearer f j n d y z (end_of f) (w.m * 2 ^ w.i) (v.outer (past tt)) w.mag (outer_beside y z (past tt) w)
      near v z pz w false past inside = nearer f j n d y z Y (w.m * 2 ^ w.i) (v.inner (inside tt)) w.mag (inner_beside y z v.sign pz (inside tt) (v.inner (inside tt)) w)
