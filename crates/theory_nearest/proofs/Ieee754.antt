-- `sqrt_of` is IEEE 754's square root and `narrow_of` its conversion to a format, in every case, and no other function is. Assumes nothing.
use Rattle.std.proofs.Common.{◌≡◌, refl, sym, ap, ◌∙◌, Bool, true, false, ℕ, zero, suc, ◌*◌, ◌^◌, ◌<◌, zero-lt-suc, not-le_of_lt, arith, T, lt→ltb, ℤ, pos, Float}
use Rattle.std.specs.Float.{nan, Format}
use lib.Ieee.{inf, fin, up, down, fits}
use lib.Ieee.Fits.{down_pos}
use Rattle.rounding.specs.Root.{sqrt_of}
use Rattle.rounding.specs.Narrow.{narrow_of}
use Rattle.theory_nearest.specs.Ieee754.{SquareRoot, Narrowing, zero_of}
use Rattle.theory_nearest.proofs.Magnitude.{finite_size, zero_mag, one_value, beq_refl}
use Rattle.theory_nearest.proofs.OtherSign.{zero_held}
use Rattle.theory_nearest.proofs.Cases.{itself, even_neighbour, to_zero, from_zero}
use Rattle.theory_nearest.proofs.Overflow.{to_infinity, to_finite}
use Rattle.theory_nearest.proofs.Subnormal.{round_subnormal}
use Rattle.theory_nearest.proofs.Evidence.{sqrt_nearest, narrow_nearest, the_nearest}

-- ---- the square root
pub square_root : (f : Format) → SquareRoot f (sqrt_of f)
unfolding sqrt_of
square_root f =
    record {
      of_nan = refl;
      of_infinity = refl;
      of_minus_infinity = refl;
      of_negative = below;
      of_zero = λ s. refl;
      of_positive = λ m e l t. the_nearest f false 2 (m * up e) (down e) _ (sqrt_nearest f (fin false m e) t (lt→ltb 0 m l));
    }
  where
    below : (m : ℕ) (e : ℤ) → 0 < m → T (fits f (fin true m e)) → sqrt_of f (fin true m e) ≡ nan
    below zero e l t = absurd (omega arith)
    below (suc m) e l t = refl

-- ---- the conversion
stays : (f : Format) (x : Float) → T (fits f x) → narrow_of f x ≡ x
unfolding narrow_of
stays f nan t = refl
stays f (inf s) t = refl
stays f (fin s m e) t = let w = (finite_size f s m e t).0 in itself f s (m * up e) (down e) (down_pos e) _ (narrow_nearest f s m e) (fin s m e) (w.m * 2 ^ w.i) t (beq_refl s) w.mag w.mag

pub narrowing : (f : Format) → Narrowing f (narrow_of f)
unfolding narrow_of
narrowing f =
    record {
      of_nan = refl;
      of_infinity = λ s. refl;
      of_zero = λ s. stays f (zero_of s) (zero_held f s);
      of_finite = λ s m e. the_nearest f s 1 (m * up e) (down e) _ (narrow_nearest f s m e);
      exact = stays f;
      tie = λ s m e y z k g. even_neighbour f s (m * up e) (down e) (down_pos e) _ (narrow_nearest f s m e) y z k g;
      overflow = λ s m e l. to_infinity f s (m * up e) (down e) (down_pos e) _ (narrow_nearest f s m e) l;
      no_overflow = λ s m e l. to_finite f s (m * up e) (down e) (down_pos e) _ (narrow_nearest f s m e) l;
      subnormal = λ s m e l. round_subnormal f s (m * up e) (down e) (down_pos e) l;
      underflow = λ s m e l. to_zero f s (m * up e) (down e) (down_pos e) _ (narrow_nearest f s m e) l;
      no_underflow = λ s m e l z. not-le_of_lt l (from_zero f s (m * up e) (down e) (down_pos e) _ (narrow_nearest f s m e) z);
    }

-- ---- no other function
only_zero : (f : Format) (s : Bool) (e : ℤ) → T (fits f (fin s 0 e)) → fin s 0 e ≡ zero_of s
only_zero f s e t = one_value f s (fin s 0 e) (zero_of s) 0 t (zero_held f s) (beq_refl s) (beq_refl s) (zero_mag f s e) (zero_mag f s (pos 0))

pub one_square_root : (f : Format) (g h : Float → Float) → SquareRoot f g → SquareRoot f h → (x : Float) → T (fits f x) → g x ≡ h x
one_square_root f g h a b nan t = a.of_nan ∙ sym b.of_nan
one_square_root f g h a b (inf true) t = a.of_minus_infinity ∙ sym b.of_minus_infinity
one_square_root f g h a b (inf false) t = a.of_infinity ∙ sym b.of_infinity
one_square_root f g h a b (fin s zero e) t = ap g (only_zero f s e t) ∙ a.of_zero s ∙ sym (b.of_zero s) ∙ ap h (sym (only_zero f s e t))
one_square_root f g h a b (fin true (suc m) e) t = a.of_negative (suc m) e (zero-lt-suc m) t ∙ sym (b.of_negative (suc m) e (zero-lt-suc m) t)
one_square_root f g h a b (fin false (suc m) e) t = (b.of_positive (suc m) e (zero-lt-suc m) t).only (g (fin false (suc m) e)) (a.of_positive (suc m) e (zero-lt-suc m) t).nearest

pub one_narrowing : (f : Format) (g h : Float → Float) → Narrowing f g → Narrowing f h → (x : Float) → g x ≡ h x
one_narrowing f g h a b nan = a.of_nan ∙ sym b.of_nan
one_narrowing f g h a b (inf s) = a.of_infinity s ∙ sym (b.of_infinity s)
one_narrowing f g h a b (fin s m e) = (b.of_finite s m e).only (g (fin s m e)) (a.of_finite s m e).nearest
