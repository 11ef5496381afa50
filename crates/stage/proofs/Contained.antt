-- What std's `contains` tells at a range `low..=high`, in the words of specs/Range.antt. Assumes nothing.
use Rattle.std.proofs.Common.{◌≡◌, refl, Bool, true, false, cond, ◌||◌, ℕ, leb, Float, Some, None, arith, ℤ}
use lib.Ieee.{le, lt, eq}
use Rattle.std.specs.declared.cmp.Ordering.TheVariants.{Less, Equal, Greater}
use Rattle.std.specs.Ordering.{partial_le, float_partial_cmp, is_some_and, is_le, nat_cmp, int_cmp}
use Rattle.std.proofs.lemmas.Bool.Decides.{nat_tests}
use Rattle.std.proofs.lemmas.Int.{ints}
use lib.Signed.{le_z}

pub float_le : (x y : Float) → partial_le float_partial_cmp x y ≡ le x y
unfolding le
float_le x y = go (lt x y) (eq x y) (lt y x)
  where
    go : (l e g : Bool) → is_some_and is_le (cond l (Some Less) (cond e (Some Equal) (cond g (Some Greater) None))) ≡ (l || e)
    go true e g = refl
    go false true g = refl
    go false false true = refl
    go false false false = refl

pub nat_le : (x y : ℕ) → is_le (nat_cmp x y) ≡ leb x y
nat_le x y = grind (arith, nat_tests)

pub int_le : (x y : ℤ) → is_le (int_cmp x y) ≡ le_z x y
int_le x y = grind (arith, ints)
