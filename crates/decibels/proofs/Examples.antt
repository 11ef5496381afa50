-- Values by hand: at -20 decibels, and where the lists begin and end. Assumes nothing.
use Rattle.std.proofs.Common.{◌≡◌, refl, pos, negsuc}
use Rattle.std.specs.Float.{nan, binary32, binary64}
use lib.Ieee.{of_bits, round}
use Rattle.float.specs.Literal.{literal}
use Rattle.decibels.specs.Amplitude.{amplitude_of, eq_amplitude_of}

-- -20 dB is 0.1, rounded
tenth : amplitude_of (negsuc 19) ≡ literal binary32 1 10
unfolding amplitude_of literal of_bits round
tenth = refl

-- -59 dB is the first entry and 24 dB the last
lowest : amplitude_of (negsuc 58) ≡ of_bits binary32 0x3a93_10b1
unfolding amplitude_of
lowest = refl

highest : amplitude_of (pos 24) ≡ of_bits binary32 0x417d_953a
unfolding amplitude_of
highest = refl

beyond : amplitude_of (pos 25) ≡ nan
unfolding amplitude_of
beyond = refl

-- EQ's, whose square is the level's: 0 dB is 1
eq_unity : eq_amplitude_of (pos 0) ≡ literal binary64 1 1
unfolding eq_amplitude_of literal of_bits round
eq_unity = refl

eq_lowest : eq_amplitude_of (negsuc 23) ≡ of_bits binary64 0x3fd0_1379_87dd_704c
unfolding eq_amplitude_of
eq_lowest = refl

eq_highest : eq_amplitude_of (pos 24) ≡ of_bits binary64 0x400f_d93c_1f52_6de0
unfolding eq_amplitude_of
eq_highest = refl

eq_below : eq_amplitude_of (negsuc 24) ≡ nan
unfolding eq_amplitude_of
eq_below = refl

eq_beyond : eq_amplitude_of (pos 25) ≡ nan
unfolding eq_amplitude_of
eq_beyond = refl
