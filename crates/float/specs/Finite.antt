-- Rust's `is_finite`. Definitions only.
use Rattle.std.specs.Prelude.{Bool, true, false, Float}
use Rattle.std.specs.Float.{nan, inf, fin}

-- false for NaN and the infinities, true for every other value
unfoldable pub finite_of : Float → Bool
finite_of nan = false
finite_of (inf s) = false
finite_of (fin s m e) = true
