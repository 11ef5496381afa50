-- NaN as the code tests for it. Assumes nothing.
use Rattle.std.proofs.Common.{◌≡◌, sym, ◌∙◌, true, false, not, true≢false, T, Float}
use Rattle.std.specs.Float.{nan}
use lib.Ieee.{inf, fin, is_nan, ne}
use lib.Ieee.Compare.{nan_differs, differs_from_itself}
use denote.Floats.{passes}

pub is_nan_lem : (x : Float) → ne x x ≡ true → x ≡ nan
is_nan_lem x h = differs_from_itself x (passes _ h)

pub not_nan : (x : Float) → ne x x ≡ false → T (not (is_nan x))
unfolding is_nan
not_nan nan h = absurd (true≢false (sym nan_differs ∙ h))
not_nan (inf s) h = tt
not_nan (fin s m e) h = tt
