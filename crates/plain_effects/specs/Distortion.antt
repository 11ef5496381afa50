-- kira's `distortion.rs`, one frame: "multiply by drive, clip, divide by drive, mix". Definitions only.
use Rattle.std.specs.Prelude.{ℤ, Float}
use Rattle.std.specs.Float.{binary32}
use Rattle.std.specs.Float.Ieee.{add, div}
use Rattle.float.specs.Literal.{literal}
use Rattle.float.specs.Clamp.{abs_of, signed_unit_of}
use Rattle.decibels.specs.Amplitude.{amplitude_of}
use Rattle.frame.specs.declared.Frame.{Frame}
use Rattle.frame.specs.Operations.{mul_of, div_of}
use Rattle.frame.specs.Mix.{mix_of}
use Rattle.plain_effects.specs.declared.distortion.DistortionKind.{DistortionKind}
use Rattle.plain_effects.specs.declared.distortion.DistortionKind.TheVariants.{HardClip, SoftClip}

-- one sample clipped: `x.clamp(-1.0, 1.0)` if hard, `x / (1.0 + x.abs())` if soft
unfoldable pub clip_of : DistortionKind → Float → Float
clip_of HardClip x = signed_unit_of binary32 x
clip_of SoftClip x = div binary32 x (add binary32 (literal binary32 1 1) (abs_of x))

-- one frame through a distortion, its drive in whole decibels; at or below -60 the Rust divides 0 by 0, which is NaN
unfoldable pub distortion_of : DistortionKind → ℤ → Float → Frame → Frame
unfolding clip_of
distortion_of kind drive mix frame =
    let d = amplitude_of drive in
    let driven = mul_of frame d in
    let clipped : Frame = record { left = clip_of kind driven.left; right = clip_of kind driven.right } in
    mix_of (div_of clipped d) frame mix
