-- IEEE 754's square root: the format's value nearest to the real root. Definitions only.
-- That `sqrt_of` gives this value, and that there is only one, is proved for both formats at once by `sqrt_nearest` and
-- `only_nearest` of crate `theory_nearest`, in the words of its specs/Nearest.antt.
use Rattle.std.specs.Prelude.{ℕ, zero, suc, ◌+◌, ◌-◌, ◌*◌, ◌/◌, ◌^◌, true, false, cond, leb, ltb, Float}
use Rattle.std.specs.Float.{nan, inf, fin, Format}
use Rattle.std.specs.Float.Ieee.{prec, low, up, down, size, units}

-- The whole part of the square root of n, for an n below 4 ^ d. It is twice the whole part of the root of n / 4, or one
-- more than that.
unfoldable pub whole_root : ℕ → ℕ → ℕ
whole_root zero n = 0
whole_root (suc d) n = let r = 2 * whole_root d (n / 4) in cond (leb (suc r * suc r) n) (suc r) r

-- The whole number nearest to the square root of n. With r the whole part of the root, it is r + 1 where n is above
-- r * r + r, and otherwise r. No root lies half way between the two, since (r + 1/2)^2 is r * r + r + 1/4.
unfoldable pub nearest_root : ℕ → ℕ
unfolding whole_root
nearest_root n = let r = whole_root (size n) n in cond (ltb (r * r + r) n) (suc r) r

-- The square root of n * u ^ 2, where u is the format's smallest positive value: it is the root of n, times u.
-- The whole part of the root of n has half as many binary digits as n. The format has room for `prec` of them, so the
-- last k are rounded off.
unfoldable pub root_units : Format → ℕ → Float
unfolding nearest_root size units
root_units f n = let k = (size n + 1) / 2 - prec f in units f false (nearest_root (n / 4 ^ k)) k

-- The square root. Of -0 it is -0; of a number below 0, of -infinity and of NaN it is NaN. A positive number x is
-- n * u ^ 2, where u is 2 ^ -low; this n is handed to `root_units`.
unfoldable pub sqrt_of : Format → Float → Float
unfolding root_units
sqrt_of f nan = nan
sqrt_of f (inf true) = nan
sqrt_of f (inf false) = inf false
sqrt_of f (fin s zero e) = fin s zero e
sqrt_of f (fin true (suc m) e) = nan
sqrt_of f (fin false (suc m) e) = root_units f (suc m * up e * 2 ^ low f / down e * 2 ^ low f)
