-- Mixing: "result is wet times sqrt(mix) plus dry times sqrt(1 - mix)". Definitions only.
use Rattle.std.specs.Prelude.{Float}
use Rattle.std.specs.Float.{binary32}
use Rattle.std.specs.Float.Ieee.{sub}
use Rattle.float.specs.Literal.{literal}
use Rattle.float.specs.Clamp.{unit_of}
use Rattle.rounding.specs.Root.{sqrt_of}
use Rattle.frame.specs.declared.Frame.{Frame}
use Rattle.frame.specs.Operations.{add_of, mul_of}

-- the wet frame mixed with the dry one, the mix clamped to 0..1 as the Rust does
unfoldable pub mix_of : Frame → Frame → Float → Frame
mix_of wet dry mix =
    let m = unit_of binary32 mix in
    add_of (mul_of wet (sqrt_of binary32 m)) (mul_of dry (sqrt_of binary32 (sub binary32 (literal binary32 1 1) m)))
