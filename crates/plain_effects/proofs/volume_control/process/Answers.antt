-- The volume is an i32 on its way to `amplitude`, and read back as the same number. Assumes nothing.
use Rattle.std.proofs.Common.{w32}
use mir.ValLaws.{to_z-of_z}
use Rattle.plain_effects.specs.VolumeControl.{volume_of}
use Rattle.plain_effects.proofs.volume_control.process.Goals as goal

pub returns : goal.returns
unfolding volume_of
returns c = rw (c.mul.ensures, c.amplitude.ensures, to_z-of_z w32 c.args.volume c.ranges.volume)
