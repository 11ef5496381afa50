-- kira's `volume_control.rs`, one frame: `*frame *= volume.as_amplitude()`. Definitions only.
use Rattle.std.specs.Prelude.{ℤ}
use Rattle.decibels.specs.Amplitude.{amplitude_of}
use Rattle.frame.specs.declared.Frame.{Frame}
use Rattle.frame.specs.Operations.{mul_of}

-- one frame through a volume control, its volume in whole decibels
unfoldable pub volume_of : ℤ → Frame → Frame
volume_of volume frame = mul_of frame (amplitude_of volume)
