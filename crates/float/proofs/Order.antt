-- What code for both widths learns of a comparison, and 0 as it names it. Assumes nothing.
use Rattle.std.proofs.Common.{◌≡◌, refl, ap, ◌∙◌, Bool, true, false, cond, Float, Option, Ordering, Some, None, Less, Equal, Greater}
use Rattle.std.specs.Float.{Format, binary32, binary64}
use lib.Ieee.{round, of_bits, lt, eq}
use Rattle.std.specs.Ordering.{float_partial_cmp, is_lt, is_some_and}
use Rattle.float.specs.Literal.{literal}

less_is : (x y : Float) → is_some_and is_lt (float_partial_cmp x y) ≡ lt x y
less_is x y = of (lt x y) (eq x y) (lt y x)
  where
    of : (a e b : Bool) → is_some_and is_lt (cond a (Some Less) (cond e (Some Equal) (cond b (Some Greater) None))) ≡ a
    of true e b = refl
    of false true b = refl
    of false false true = refl
    of false false false = refl

pub less_by : (x y : Float) {b : Bool} {o : Option Ordering} → b ≡ is_some_and is_lt o → o ≡ float_partial_cmp x y → b ≡ lt x y
less_by x y e h = e ∙ ap (is_some_and is_lt) h ∙ less_is x y

pub zero_literal : (f : Format) → literal f 0 1 ≡ of_bits f 0
unfolding literal round of_bits
zero_literal binary32 = refl
zero_literal binary64 = refl
