-- The first 2i bytes are those of i samples, and the rest is as it was. Assumes nothing.
use Rattle.std.proofs.Common.{◌++◌, ◌≡◌, ◌*◌, drop}
use Rattle.wav_samples.specs.Frames.{bytes_of}
use Rattle.wav_samples.proofs.frames.frames_out.Given as goal

abbrev pub invariant-loop-i : goal.invariant-loop-i
invariant-loop-i l = l.bytes ≡ bytes_of l.samples l.i ++ drop (2 * l.i) l.initial.bytes
