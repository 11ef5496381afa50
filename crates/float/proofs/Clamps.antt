-- `abs`, as the library has it. Assumes nothing.
use Rattle.std.proofs.Common.{◌≡◌, refl, Float, false}
use lib.Ieee.{inf, fin}
use Rattle.std.specs.Float.{float_with_sign, nan}
use Rattle.float.specs.Clamp.{abs_of}

pub abs_is : (x : Float) → float_with_sign false x ≡ abs_of x
unfolding float_with_sign abs_of
abs_is nan = refl
abs_is (inf s) = refl
abs_is (fin s m e) = refl
