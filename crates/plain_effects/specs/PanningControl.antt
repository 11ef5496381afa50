-- kira's `panning_control.rs`, one frame: `*frame = frame.panned(panning)`. Definitions only.
use Rattle.std.specs.Prelude.{Float}
use Rattle.frame.specs.declared.Frame.{Frame}
use Rattle.frame.specs.Panning.{panned_of}

-- one frame through a panning control
unfoldable pub panning_of : Float → Frame → Frame
panning_of panning frame = panned_of frame panning
