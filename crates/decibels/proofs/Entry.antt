-- An entry of a list is the float nearest to a power of ten, by a test that antt computes. Assumes nothing.
use Rattle.std.proofs.Common.{◌≡◌, sym, ap, ◌∙◌, subst, inr, Bool, false, ◌&&◌, ℕ, suc, ◌+◌, ◌-◌, ◌*◌, ◌/◌, ◌%◌, ◌^◌, ◌≤◌, ◌<◌, min, le_trans, le_of_eq, le_of_lt, ne_of_lt, mod-lt, div-add-mod', mul-le-mul_right, suc-mul, arith, T, leb, ltb, leb→le, ltb→lt, pow_pos}
use Rattle.std.specs.Float.{Format}
use lib.Ieee.{prec, low, hid, ones, of_bits, units}
use lib.Ieee.Fits.{and_l, and_r}
use Rattle.theory_nearest.specs.Nearest.{Nearest}
use Rattle.theory_nearest.proofs.Kept.{Kept, kept_nearest}
use Rattle.float.proofs.Fields.{suc_pred, hid_twice}
use Rattle.rounding.proofs.Pack.{pack}

-- the digits of the normal number whose bits are b, of which the first is not stored, and how many units of the format's smallest value the last counts: 2 ^ drop
abbrev digits : Format → ℕ → ℕ
digits f b = hid f + b % hid f

abbrev drop : Format → ℕ → ℕ
drop f b = b / hid f - 1

abbrev is_normal : Format → ℕ → Bool
is_normal f b = leb 1 (b / hid f) && ltb (b / hid f) (ones f)

-- the real number t with t ^ j = 10 ^ i / d has as many digits as the entry at place i, and lies between the means of the entry and its two neighbours
module _ (f : Format) (j d i b : ℕ) where
  abbrev reaches : Bool
  reaches = leb ((hid f * 2 ^ drop f b) ^ j * d) (10 ^ i * (2 ^ low f) ^ j)

  abbrev below : Bool
  below = ltb (10 ^ i * (2 * 2 ^ low f) ^ j) ((suc (2 * digits f b) * 2 ^ drop f b) ^ j * d)

  abbrev above : Bool
  above = ltb (((2 * digits f b - 1) * 2 ^ drop f b) ^ j * d) (10 ^ i * (2 * 2 ^ low f) ^ j)

  unfoldable pub near : Bool
  near = is_normal f b && reaches && below && above

-- ---- an entry that passes is the nearest
-- an entry b with q = b / h and r = b % h has the bits of its digits again
again : (o h b q r : ℕ) → q * h + r ≡ b → 1 ≤ q → q < o → r < h → 0 + min ((q - 1) * h + (h + r)) (o * h) ≡ b
again o h b q r e l g s =
    let p = suc_pred q l in
    let a : suc (q - 1) * h ≡ (q - 1) * h + h = suc-mul (q - 1) h in
    let c : suc (q - 1) * h ≡ q * h = ap (λ (x : ℕ). x * h) p in
    let w : suc q * h ≤ o * h = mul-le-mul_right h g in
    let v : suc q * h ≡ q * h + h = suc-mul q h in
    omega arith

module _ (f : Format) (j d i b : ℕ) (t : T (near f j d i b)) where
  parts : (T (leb 1 (b / hid f)) × T (ltb (b / hid f) (ones f))) × (T (reaches f j d i b) × (T (below f j d i b) × T (above f j d i b)))
  unfolding near
  parts =
      let n = is_normal f b in
      let r = reaches f j d i b in
      let u = below f j d i b in
      let v = above f j d i b in
      let nru = and_l (n && r && u) v t in
      let nr = and_l (n && r) u nru in
      let m = and_l n r nr in
      ((and_l (leb 1 (b / hid f)) (ltb (b / hid f) (ones f)) m, and_r (leb 1 (b / hid f)) (ltb (b / hid f) (ones f)) m), (and_r n r nr, (and_r (n && r) u nru, and_r (n && r && u) v t)))

  rest : b % hid f < hid f
  rest = mod-lt b (pow_pos (prec f - 1))

  full : hid f ≤ digits f b
  full = omega arith

  most : digits f b ≤ 2 ^ prec f
  most = le_trans (within (hid f) (b % hid f) rest) (le_of_eq (sym (hid_twice f)))
    where
      within : (h r : ℕ) → r < h → h + r ≤ h * 2
      within h r l = omega arith

  kept : Kept f j (10 ^ i) d (digits f b) (drop f b)
  kept =
      let u = ltb→lt (10 ^ i * (2 * 2 ^ low f) ^ j) ((suc (2 * digits f b) * 2 ^ drop f b) ^ j * d) parts.1.1.0 in
      let v = ltb→lt (((2 * digits f b - 1) * 2 ^ drop f b) ^ j * d) (10 ^ i * (2 * 2 ^ low f) ^ j) parts.1.1.1 in
      record {
        least = inr full;
        most = most;
        start = inr (leb→le _ _ parts.1.0);
        up = le_of_lt u;
        down = le_of_lt v;
        up_even = λ e. absurd (ne_of_lt u e);
        down_even = λ p e. absurd (ne_of_lt v (sym e));
      }

  entry_is : units f false (digits f b) (drop f b) ≡ of_bits f b
  entry_is =
      sym (pack f false (digits f b) (drop f b) most (inr full))
      ∙ ap (of_bits f) (again (ones f) (hid f) b (b / hid f) (b % hid f) (div-add-mod' b (hid f)) (leb→le _ _ parts.0.0) (ltb→lt _ _ parts.0.1) rest)

  pub nearest_entry : 0 < j → 0 < d → Nearest f false j (10 ^ i) d (of_bits f b)
  nearest_entry J D = subst (Nearest f false j (10 ^ i) d) entry_is (kept_nearest f false j (10 ^ i) d (digits f b) (drop f b) J D kept)
