-- The edges of document 01's table of settings, and of the place after a delay, worked out by antt on the definitions. Assumes nothing.
use Rattle.std.proofs.Common.{◌≡◌, refl, Bool, true, false, ℕ, ◌+◌, ◌-◌, ◌^◌, ℤ, pos, negsuc, Float}
use Rattle.std.specs.Float.{nan, binary32, binary64}
use lib.Ieee.{fin, le}
use Rattle.float.specs.Literal.{literal}
use Rattle.float.specs.Finite.{finite_of}
use Rattle.plain_effects.specs.declared.distortion.DistortionKind.TheVariants.{HardClip}
use Rattle.filters.specs.declared.filter.FilterMode.TheVariants.{LowPass}
use Rattle.filters.specs.declared.eq_filter.EqFilterKind.TheVariants.{Bell}
use Rattle.stage.specs.declared.kind.Stage.{Stage}
use Rattle.stage.specs.declared.kind.Stage.TheVariants.{PanningControl, Distortion, Filter, EqFilter, Reverb, Delay}
use Rattle.stage.specs.Setup.{next_place}
use Rattle.stage.specs.Range.{in_range_of}

abbrev pub one : Float
one = literal binary32 1 1

abbrev pub one64 : Float
one64 = literal binary64 1 1

abbrev pub minus_zero : Float
minus_zero = fin true 0 (pos 0)

-- a stage with one setting free, and whether it is in range
abbrev pub delayed : ℕ → Stage
delayed frames = Delay frames (pos 0) one 0

abbrev pub frames_fit : ℕ → Bool
frames_fit frames = in_range_of (delayed frames)

abbrev pub drive_fits : ℤ → Bool
drive_fits drive = in_range_of (Distortion HardClip drive one)

abbrev pub g_fits : Float → Bool
g_fits g = in_range_of (Filter LowPass g one64 one)

abbrev pub eq_fits : ℤ → Float → Bool
eq_fits gain q = in_range_of (EqFilter Bell one64 gain q)

abbrev pub reverb_fits : Float → Float → Bool
reverb_fits feedback mix = in_range_of (Reverb feedback one one mix)

-- "delay 0 and 480,001 refused, 1 and 480,000 taken"
pub delay_0 : frames_fit 0 ≡ false
unfolding in_range_of
delay_0 = refl

pub delay_480001 : frames_fit 480001 ≡ false
unfolding in_range_of
delay_480001 = refl

pub delay_1 : frames_fit 1 ≡ true
unfolding in_range_of literal finite_of
delay_1 = refl

pub delay_480000 : frames_fit 480000 ≡ true
unfolding in_range_of literal finite_of
delay_480000 = refl

-- drive from -59
pub drive_60 : drive_fits (negsuc 59) ≡ false
unfolding in_range_of
drive_60 = refl

pub drive_59 : drive_fits (negsuc 58) ≡ true
unfolding in_range_of literal finite_of
drive_59 = refl

-- g from 2^-13, and not the f64 below it, to 10^17, and not the f64 above it
pub g_below : g_fits (fin false (2 ^ 53 - 1) (negsuc 65)) ≡ false
unfolding in_range_of literal le
g_below = refl

pub g_lowest : g_fits (fin false 1 (negsuc 12)) ≡ true
unfolding in_range_of literal le finite_of
g_lowest = refl

pub g_highest : g_fits (literal binary64 (10 ^ 17) 1) ≡ true
unfolding in_range_of literal le finite_of
g_highest = refl

pub g_above : g_fits (literal binary64 (10 ^ 17 + 16) 1) ≡ false
unfolding in_range_of literal le
g_above = refl

-- "EQ gain 25 refused, 24 taken"; a q of -0 is a q of 0
pub gain_25 : eq_fits (pos 25) one64 ≡ false
unfolding in_range_of literal le
gain_25 = refl

pub gain_24 : eq_fits (pos 24) one64 ≡ true
unfolding in_range_of literal le
gain_24 = refl

pub q_minus_zero : eq_fits (pos 0) minus_zero ≡ true
unfolding in_range_of literal le
q_minus_zero = refl

-- a feedback of -0, of 1, and of the f32 above 1
pub feedback_minus_zero : reverb_fits minus_zero one ≡ true
unfolding in_range_of literal le finite_of
feedback_minus_zero = refl

pub feedback_one : reverb_fits one one ≡ true
unfolding in_range_of literal le finite_of
feedback_one = refl

pub feedback_above : reverb_fits (fin false (2 ^ 23 + 1) (negsuc 22)) one ≡ false
unfolding in_range_of literal le
feedback_above = refl

-- no NaN is in range
pub mix_nan : reverb_fits one nan ≡ false
unfolding in_range_of literal le finite_of
mix_nan = refl

pub feedback_nan : reverb_fits nan one ≡ false
unfolding in_range_of literal le
feedback_nan = refl

pub panning_nan : in_range_of (PanningControl nan) ≡ false
unfolding in_range_of finite_of
panning_nan = refl

-- a delay at place 1 that owns two stages: the next place is 4, or the end before that
pub next_4 : next_place (Delay 10 (pos 0) one 2) 1 16 ≡ 4
unfolding next_place
next_4 = refl

pub next_end : next_place (Delay 10 (pos 0) one 2) 1 3 ≡ 3
unfolding next_place
next_end = refl
