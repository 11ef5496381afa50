-- What is read lies within the bytes. The measure is what is left of them.
use Rattle.std.proofs.Common.{◌-◌, ◌≤◌, length}
use Rattle.wav_stream.proofs.read_full.Given as goal

abbrev pub invariant-loop-done : goal.invariant-loop-done
invariant-loop-done g l = l.done ≤ length l.bytes

abbrev pub decreases-loop-done : goal.decreases-loop-done
decreases-loop-done g l = length l.bytes - l.done
