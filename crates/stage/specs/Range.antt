-- Which settings are finite and in their ranges, by document 01's "Settings of each stage". Definitions only.
use Rattle.std.specs.Prelude.{Bool, ◌&&◌, ℕ, ◌^◌, leb, ℤ, pos, negsuc, Float}
use Rattle.std.specs.Int.Signed.{le_z}
use Rattle.std.specs.Float.{binary32, binary64}
use Rattle.std.specs.Float.Ieee.{le}
use Rattle.float.specs.Literal.{literal}
use Rattle.float.specs.Finite.{finite_of}
use Rattle.stage.specs.declared.kind.Stage.{Stage}
use Rattle.stage.specs.declared.kind.Stage.TheVariants.{VolumeControl, PanningControl, Distortion}
use Rattle.stage.specs.declared.kind.Stage.TheVariants.{Filter, EqFilter, Reverb, Delay}

-- a whole number from `low` to `high`, both included
abbrev pub between_z : ℤ → ℤ → ℤ → Bool
between_z low high x = le_z low x && le_z x high

-- a float from `low` to `high`, both included: -0 counts as 0, and a NaN is in no range
abbrev pub between : Float → Float → Float → Bool
between low high x = le low x && le x high

-- a reverb's feedback, damping and width: "each an f32 from 0 to 1"
unfoldable pub unit_range : Float → Bool
unit_range x = between (literal binary32 0 1) (literal binary32 1 1) x

-- "g from 2^-13 to 10^17"
unfoldable pub tangent_of : Float → Bool
tangent_of g = between (literal binary64 1 (2 ^ 13)) (literal binary64 (10 ^ 17) 1) g

-- "1 to 480,000 frames; feedback in whole dB, at most 24; mix", which is any finite f32
unfoldable pub delay_range : ℕ → ℤ → Float → Bool
delay_range frames feedback mix = leb 1 frames && leb frames 480000 && le_z feedback (pos 24) && finite_of mix

-- every setting of the stage is finite and in its range; how many stages a delay owns is refusal 3's concern
unfoldable pub in_range_of : Stage → Bool
unfolding unit_range tangent_of delay_range
in_range_of (VolumeControl volume) = le_z volume (pos 24)
in_range_of (PanningControl panning) = finite_of panning
in_range_of (Distortion kind drive mix) = between_z (negsuc 58) (pos 24) drive && finite_of mix
in_range_of (Filter mode g resonance mix) = tangent_of g && finite_of resonance && finite_of mix
in_range_of (EqFilter kind g gain q) =
    tangent_of g && between_z (negsuc 23) (pos 24) gain && between (literal binary64 0 1) (literal binary64 1000 1) q
in_range_of (Reverb feedback damping width mix) =
    unit_range feedback && unit_range damping && unit_range width && finite_of mix
in_range_of (Delay frames feedback mix owned) = delay_range frames feedback mix
