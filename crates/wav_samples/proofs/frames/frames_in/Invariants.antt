-- The first i samples are those of the bytes, and the rest is as it was. Assumes nothing.
use Rattle.std.proofs.Common.{◌++◌, ◌≡◌, drop}
use Rattle.wav_samples.specs.Frames.{samples_of}
use Rattle.wav_samples.proofs.frames.frames_in.Given as goal

abbrev pub invariant-loop-i : goal.invariant-loop-i
invariant-loop-i l = l.sample-items ≡ samples_of l.bytes l.i ++ drop l.i l.initial.sample-items
