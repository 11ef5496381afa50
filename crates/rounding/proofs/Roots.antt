-- The values that are no finite positive number: what a comparison with 0 says of them, and their roots. Assumes nothing.
use Rattle.std.proofs.Common.{◌≡◌, refl, sym, ap, ◌∙◌, zero, suc, ◌*◌, ◌≤◌, ◌<◌, le_trans, le_of_eq, lt_of_lt_of_le, lt_irrefl, suc-ne-zero, pos_of_ne-zero, zero-mul, Bool, true, false, not, true≢false, pos, T, ltb-false, Float}
use Rattle.std.specs.Float.{nan, Format}
use mathlib.Core.Bool.{false≢true}
use lib.Ieee.{inf, fin, up, down, hid, ones, of_bits, to_bits, fits, is_nan, lt, eq}
use lib.Ieee.Bits.{of_bits-to_bits}
use Rattle.float.proofs.Zero.{zero_is, some_size, equals_zero, zero_size}
use Rattle.float.proofs.Finites.{finite_bits}
use Rattle.rounding.specs.Root.{sqrt_of}

-- ---- what a comparison with 0 says
abbrev Above : Float → Bool
Above x = lt (fin false 0 (pos 0)) x

at_zero : (f : Format) (x : Float) (b : Bool) → lt (of_bits f 0) x ≡ b → Above x ≡ b
at_zero f x b h = ap (λ (z : Float). lt z x) (sym (zero_is f)) ∙ h

pub above_not_nan : (f : Format) (x : Float) → lt (of_bits f 0) x ≡ true → T (not (is_nan x))
unfolding lt is_nan
above_not_nan f x h = go x (at_zero f x true h)
  where
    go : (x : Float) → Above x ≡ true → T (not (is_nan x))
    go nan e = absurd (false≢true e)
    go (inf s) e = tt
    go (fin s m e) h = tt

pub above_bits : (f : Format) (x : Float) → T (fits f x) → lt (of_bits f 0) x ≡ true → 0 < to_bits f x
unfolding lt
above_bits f x t h = pos_of_ne-zero (λ (e : to_bits f x ≡ 0). not_above (sym (ap (λ (z : Float). Above z) (sym (of_bits-to_bits f x t) ∙ ap (of_bits f) e ∙ zero_is f)) ∙ at_zero f x true h))
  where
    not_above : Above (fin false 0 (pos 0)) ≡ true → ⊥
    not_above e = false≢true e

-- ---- the roots that are worked out with no digit
pub root_of_inf : (f : Format) (x : Float) → T (fits f x) → lt (of_bits f 0) x ≡ true → ones f * hid f ≤ to_bits f x → x ≡ sqrt_of f x
unfolding lt sqrt_of
root_of_inf f x t h l = go x t (at_zero f x true h) l
  where
    go : (x : Float) → T (fits f x) → Above x ≡ true → ones f * hid f ≤ to_bits f x → x ≡ sqrt_of f x
    go nan t e l = absurd (false≢true e)
    go (inf true) t e l = absurd (false≢true e)
    go (inf false) t e l = refl
    go (fin true m d) t e l = absurd (false≢true e)
    go (fin false m d) t e l = absurd (lt_irrefl (to_bits f (fin false m d)) (lt_of_lt_of_le (finite_bits f m d t) l))

pub root_of_zero : (f : Format) (x : Float) → eq x (of_bits f 0) ≡ true → x ≡ sqrt_of f x
unfolding eq sqrt_of
root_of_zero f x h = go x (ap (eq x) (sym (zero_is f)) ∙ h)
  where
    go : (x : Float) → eq x (fin false 0 (pos 0)) ≡ true → x ≡ sqrt_of f x
    go nan e = absurd (false≢true e)
    go (inf s) e = absurd (false≢true e)
    go (fin s zero d) e = refl
    go (fin s (suc m) d) e = absurd (suc-ne-zero m (zero_size s (suc m) d e))

pub root_of_negative : (f : Format) (x : Float) → lt (of_bits f 0) x ≡ false → eq x (of_bits f 0) ≡ false → nan ≡ sqrt_of f x
unfolding lt eq sqrt_of
root_of_negative f x h k = go x (at_zero f x false h) (ap (eq x) (sym (zero_is f)) ∙ k)
  where
    go : (x : Float) → Above x ≡ false → eq x (fin false 0 (pos 0)) ≡ false → nan ≡ sqrt_of f x
    go nan e i = refl
    go (inf true) e i = refl
    go (inf false) e i = absurd (true≢false e)
    go (fin s zero d) e i = absurd (true≢false (sym (equals_zero s d) ∙ i))
    go (fin true (suc m) d) e i = refl
    go (fin false (suc m) d) e i = absurd (no (ltb-false (0 * 1 * down d) (suc m * up d * 1) e))
      where
        no : suc m * up d * 1 ≤ 0 * 1 * down d → ⊥
        no l = lt_irrefl 0 (lt_of_lt_of_le (some_size m d) (le_trans l (le_of_eq (zero-mul (down d)))))
