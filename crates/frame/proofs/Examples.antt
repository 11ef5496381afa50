-- Document 01: "a panning equal to 0 (also -0) returns the frame". Assumes nothing.
use Rattle.std.proofs.Common.{◌≡◌, refl}
use Rattle.std.specs.Float.{binary32}
use lib.Ieee.{neg, eq, round}
use Rattle.float.specs.Literal.{literal}
use Rattle.frame.specs.declared.Frame.{Frame}
use Rattle.frame.specs.Panning.{panned_of}
use Rattle.frame.proofs.Panning.{centred}

pub centre : (a : Frame) → panned_of a (literal binary32 0 1) ≡ a
unfolding literal eq round
centre a = centred a _ refl

pub centre_negative : (a : Frame) → panned_of a (neg (literal binary32 0 1)) ≡ a
unfolding literal eq round neg
centre_negative a = centred a _ refl
