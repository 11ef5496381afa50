-- Below the least normal number no digit is dropped: there the library's `round` gives the nearest multiple of the format's smallest value. Assumes nothing.
use Rattle.std.proofs.Common.{◌≡◌, refl, sym, ap, ◌∙◌, subst, inl, Bool, ℕ, ◌-◌, ◌*◌, ◌/◌, ◌%◌, ◌^◌, ◌≤◌, ◌<◌, le_trans, le_of_eq, le_of_lt, lt_of_lt_of_le, mul-one, mul-le-mul_right, div-lt_iff_lt-mul, arith, pow_mono}
use Rattle.std.specs.Float.{Format}
use Prim.Native.Nat.{compare}
use lib.Ieee.{prec, low, hid, round, units}
use lib.Ieee.Fits.{nearest-le}
use lib.Ieee.Nearest.{closest}
use Rattle.rounding.proofs.Pack.{drops_none}
use Rattle.rounding.proofs.Rounding.{round_units}
use Rattle.theory_nearest.specs.Nearest.{under}
use Rattle.theory_nearest.specs.Ieee754.{NearestMultiple}
use Rattle.theory_nearest.proofs.Magnitude.{Mag}
use Rattle.theory_nearest.proofs.Kept.{rounded, room}
use Rattle.theory_nearest.proofs.Whole.{closest_whole}

pub round_subnormal : (f : Format) (s : Bool) (n d : ℕ) → 0 < d → n * 2 ^ low f < hid f * d → NearestMultiple f n d (round f s n d)
round_subnormal f s n d D l =
    let N = n * 2 ^ low f in
    let r = closest N d in
    let few : N / d < 2 ^ prec f = (div-lt_iff_lt-mul D).1 (lt_of_lt_of_le l (mul-le-mul_right d (pow_mono {i = prec f - 1} {j = prec f} (omega arith)))) in
    let most : r ≤ 2 ^ prec f = le_trans (nearest-le (N / d) (compare (N % d * 2) d)) few in
    let is : round f s n d ≡ units f s r 0 = round_units f s n d 0 (drops_none (N / d) (prec f) few) ∙ ap (λ (x : ℕ). units f s (closest N x) 0) (mul-one d) in
    let size : Mag f (units f s r 0) (r * 1) = (rounded f s r 0 most (inl refl)).inner (le_trans (le_of_eq (mul-one r)) (le_trans most (le_of_lt (room f)))) in
    subst (NearestMultiple f n d) (sym is)
    (record { count = r; nearest = closest_whole N d D; size = size ∙ ap (λ (x : ℕ). x * under (units f s r 0)) (mul-one r) })
