use lib.Ieee.{of_bits, round}
use Rattle.float.specs.Literal.{literal}
use Rattle.plain_effects.specs.Distortion.{clip_of}
use Rattle.plain_effects.proofs.distortion.clip.Goals as goal

pub returns-in-HardClip : goal.returns-in-HardClip
unfolding clip_of
returns-in-HardClip c = rw (c.clamp_signed_unit.ensures, c.in-HardClip.is)

pub returns-in-SoftClip : goal.returns-in-SoftClip
unfolding clip_of literal round of_bits
returns-in-SoftClip c = rw (c.abs.ensures, c.in-SoftClip.is)
