-- Which bit patterns are a NaN's: those above an infinity's, the sign put aside. Assumes nothing.
use Rattle.std.proofs.Common.{◌≡◌, refl, sym, ap, ◌∙◌, ℕ, suc, ◌+◌, ◌-◌, ◌*◌, ◌%◌, ◌≤◌, ◌<◌, mul_comm, mod-eq_of_lt, suc-mul, two-mul, arith, true, not, T, pow_pos, le-ltb, lt-ltb, Float}
use Rattle.std.specs.Float.{nan, Format}
use mathlib.Core.Bool.{false≢true}
use denote.Floats.{passes}
use lib.Ieee.{inf, fin, prec, hid, ones, top, of_bits, nan_bits, is_nan}
use lib.Ieee.Bits.{nan_bits_above, nan_bits_is}

pub inf_below_top : (f : Format) → ones f * hid f < top f
inf_below_top f = grows (top f) (ones f * hid f) (hid f) (mul_comm (hid f) (suc (ones f)) ∙ suc-mul (ones f) (hid f)) (pow_pos (prec f - 1))
  where
    grows : (a b c : ℕ) → a ≡ b + c → 0 < c → b < a
    grows a b c e l = omega arith

-- ---- a pattern up to the infinity's keeps all its bits
pub kept_whole : (f : Format) (r : ℕ) → r ≤ ones f * hid f → r % (2 * top f) ≡ r
kept_whole f r h = mod-eq_of_lt (join (ones f * hid f) (top f) (2 * top f) h (inf_below_top f) (two-mul (top f)))
  where
    join : (a b c : ℕ) → r ≤ a → a < b → c ≡ b + b → r < c
    join a b c k l e = omega arith

-- ---- a pattern, by the number below its sign
pub nan_pattern : (f : Format) (n : ℕ) → ones f * hid f < n % top f → of_bits f n ≡ nan
unfolding is_nan
nan_pattern f n h = told (of_bits f n) (sym (nan_bits_is f n) ∙ nan_bits_above f n ∙ lt-ltb (ones f * hid f) (n % top f) h)
  where
    told : (x : Float) → is_nan x ≡ true → x ≡ nan
    told nan e = refl
    told (inf s) e = absurd (false≢true e)
    told (fin s m d) e = absurd (false≢true e)

pub no_nan_pattern : (f : Format) (n : ℕ) → n % top f ≤ ones f * hid f → T (not (nan_bits f n))
no_nan_pattern f n h = passes _ (ap not (nan_bits_above f n ∙ le-ltb (ones f * hid f) (n % top f) h))
