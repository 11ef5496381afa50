-- Each entry of the two lists is the float nearest to its power of ten: one test, computed at every entry, and the law of Entry.antt, that makes of it the rule of specs/Nearest.antt of crate `theory_nearest`. Assumes nothing.
use Rattle.std.proofs.Common.{subst, false, ℕ, ◌^◌, ◌<◌, T, lit<, ℤ, pos, negsuc, ◌≤ℤ◌, get_or}
use Rattle.std.specs.Float.{nan, binary32, binary64}
use lib.Ieee.{of_bits}
use Rattle.float.specs.Literal.{literal}
use Rattle.theory_nearest.specs.Nearest.{Nearest}
use Rattle.decibels.specs.Amplitude.{amplitudes, eq_amplitudes, amplitude_of, eq_amplitude_of}
use Rattle.decibels.proofs.Places.{amplitude_entry, eq_amplitude_entry}
use Rattle.decibels.proofs.Each.{all, each}
use Rattle.decibels.proofs.Entry.{near, nearest_entry}
use Rattle.decibels.specs.Power.{NearestPower}
use Rattle.decibels.proofs.Rule.{rule}

test32 : T (all (near binary32 20 (10 ^ 59)) 0 amplitudes)
unfolding near amplitudes
test32 = tt

test64 : T (all (near binary64 40 (10 ^ 24)) 0 eq_amplitudes)
unfolding near eq_amplitudes
test64 = tt

-- the entry at place i is the f32 nearest to 10 ^ ((i - 59) / 20)
pub amplitude_nearest : (i : ℕ) → i < 84 → Nearest binary32 false 20 (10 ^ i) (10 ^ 59) (of_bits binary32 (get_or amplitudes i 0))
unfolding amplitudes
amplitude_nearest i h = nearest_entry binary32 20 (10 ^ 59) i (get_or amplitudes i 0) (each (near binary32 20 (10 ^ 59)) amplitudes test32 i h) (lit< tt) (lit< tt)

-- the entry at place i is the f64 nearest to 10 ^ ((i - 24) / 40)
pub eq_amplitude_nearest : (i : ℕ) → i < 49 → Nearest binary64 false 40 (10 ^ i) (10 ^ 24) (of_bits binary64 (get_or eq_amplitudes i 0))
unfolding eq_amplitudes
eq_amplitude_nearest i h = nearest_entry binary64 40 (10 ^ 24) i (get_or eq_amplitudes i 0) (each (near binary64 40 (10 ^ 24)) eq_amplitudes test64 i h) (lit< tt) (lit< tt)

-- from -59 to 24 decibels `amplitude_of` is the f32 nearest to 10 ^ (z / 20)
pub amplitude_rule : (z : ℤ) → negsuc 58 ≤ℤ z → z ≤ℤ pos 24 → NearestPower binary32 20 z (amplitude_of z)
amplitude_rule z lo hi = subst (NearestPower binary32 20 z) (amplitude_entry z) (rule binary32 20 amplitudes 58 (literal binary32 0 1) amplitude_nearest z lo hi)

-- from -24 to 24 decibels `eq_amplitude_of` is the f64 nearest to 10 ^ (z / 40)
pub eq_amplitude_rule : (z : ℤ) → negsuc 23 ≤ℤ z → z ≤ℤ pos 24 → NearestPower binary64 40 z (eq_amplitude_of z)
eq_amplitude_rule z lo hi = subst (NearestPower binary64 40 z) (eq_amplitude_entry z) (rule binary64 40 eq_amplitudes 23 nan eq_amplitude_nearest z lo hi)
