-- The promises of the calls, the last first, turn the result into the definition; the drive is an i32 on its way to `amplitude`. Assumes nothing.
use Rattle.std.proofs.Common.{w32}
use mir.ValLaws.{to_z-of_z}
use Rattle.plain_effects.specs.Distortion.{distortion_of}
use Rattle.plain_effects.proofs.distortion.process.Goals as goal

pub returns : goal.returns
unfolding distortion_of
returns c =
    rw (
      c.mixed.ensures,
      c.div.ensures,
      c.clip-2.ensures,
      c.clip.ensures,
      c.mul-driven.ensures,
      c.amplitude-amount.ensures,
      to_z-of_z w32 c.args.drive c.ranges.drive,
    )
