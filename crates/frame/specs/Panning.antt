-- Panning: "a panning equal to 0 (also -0) returns the frame. Otherwise h = (p + 1) * 0.5; left times sqrt(1 - h),
-- right times sqrt(h); then both times the f32 sqrt 2", with p clamped to -1..1 for h. Definitions only.
use Rattle.std.specs.Prelude.{cond, Float}
use Rattle.std.specs.Float.{binary32}
use Rattle.std.specs.Float.Ieee.{add, sub, mul, eq, of_bits}
use Rattle.float.specs.Literal.{literal}
use Rattle.float.specs.Clamp.{signed_unit_of}
use Rattle.rounding.specs.Root.{sqrt_of}
use Rattle.frame.specs.declared.Frame.{Frame}
use Rattle.frame.specs.Operations.{mul_of}

-- Rust's `SQRT_2`: "the f32 sqrt 2, bits 3FB504F3"
unfoldable pub sqrt2 : Float
sqrt2 = of_bits binary32 0x3fb504f3

-- h: how far to the right a panning lies, from 0 for -1 and below to 1 for 1 and above
unfoldable pub rightward : Float → Float
rightward p = mul binary32 (add binary32 (signed_unit_of binary32 p) (literal binary32 1 1)) (literal binary32 1 2)

-- the frame panned by p: a p equal to 0 returns the frame, and any other p, however small, goes by h
unfoldable pub panned_of : Frame → Float → Frame
unfolding rightward
panned_of a p =
    let h = rightward p in
    cond (eq p (literal binary32 0 1)) a
    (mul_of (record {
      left = mul binary32 a.left (sqrt_of binary32 (sub binary32 (literal binary32 1 1) h));
      right = mul binary32 a.right (sqrt_of binary32 h);
    }) sqrt2)
