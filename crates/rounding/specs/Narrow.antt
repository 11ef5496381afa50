-- Rust's `as f32`, IEEE 754's conversion of a value to another format: the same number, rounded. Definitions only.
-- That `narrow_of` gives the nearest value, and that there is only one, is proved for both formats at once by
-- `narrow_nearest` and `only_nearest` of crate `theory_nearest`, in the words of its specs/Nearest.antt.
use Rattle.std.specs.Prelude.{◌*◌, Float}
use Rattle.std.specs.Float.{nan, inf, fin, Format}
use Rattle.std.specs.Float.Ieee.{up, down, round}

-- the format's value nearest to x, a tie going to the even one; -0, the infinities and NaN stay as they are
unfoldable pub narrow_of : Format → Float → Float
unfolding round
narrow_of f nan = nan
narrow_of f (inf s) = inf s
narrow_of f (fin s m e) = round f s (m * up e) (down e)
