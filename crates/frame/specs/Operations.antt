-- kira's `frame.rs`: the operations on frames, each side by itself, each operation rounded once. Definitions only.
use Rattle.std.specs.Prelude.{Float}
use Rattle.std.specs.Float.{binary32}
use Rattle.std.specs.Float.Ieee.{add, sub, mul, div, neg}
use Rattle.float.specs.Literal.{literal}
use Rattle.frame.specs.declared.Frame.{Frame}

-- `Frame::ZERO`: 0 on both sides
unfoldable pub zero_frame : Frame
zero_frame = record { left = literal binary32 0 1; right = literal binary32 0 1 }

-- `Frame::new`: a frame of these two samples
unfoldable pub new_of : Float → Float → Frame
new_of left right = record { left = left; right = right }

-- `Frame::from_mono`: the same sample on both sides
unfoldable pub from_mono_of : Float → Frame
from_mono_of value = record { left = value; right = value }

-- `Frame::as_mono`: (left + right) / 2 on both sides
unfoldable pub as_mono_of : Frame → Frame
unfolding from_mono_of
as_mono_of a = from_mono_of (div binary32 (add binary32 a.left a.right) (literal binary32 2 1))

-- `a + b`: left plus left, right plus right
unfoldable pub add_of : Frame → Frame → Frame
add_of a b = record { left = add binary32 a.left b.left; right = add binary32 a.right b.right }

-- `a - b`: left minus left, right minus right
unfoldable pub sub_of : Frame → Frame → Frame
sub_of a b = record { left = sub binary32 a.left b.left; right = sub binary32 a.right b.right }

-- `a * x`: both sides times x
unfoldable pub mul_of : Frame → Float → Frame
mul_of a x = record { left = mul binary32 a.left x; right = mul binary32 a.right x }

-- `a / x`: both sides divided by x
unfoldable pub div_of : Frame → Float → Frame
div_of a x = record { left = div binary32 a.left x; right = div binary32 a.right x }

-- `-a`: both signs turned round, those of zeros too
unfoldable pub neg_of : Frame → Frame
neg_of a = record { left = neg a.left; right = neg a.right }
