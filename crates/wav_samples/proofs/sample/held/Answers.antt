-- `sample::held` meets its contract. Assumes nothing.
use Rattle.std.proofs.Common.{arith}
use Rattle.std.proofs.lemmas.Int.{ints}
use Rattle.wav_samples.specs.Sample.{held_of}
use Rattle.wav_samples.proofs.sample.held.Goals as goal

pub returns-then-is_negative : goal.returns-then-is_negative
unfolding held_of
returns-then-is_negative c = rw c.if-is_negative.true (omega (arith, ints))

pub returns-else-is_negative : goal.returns-else-is_negative
unfolding held_of
returns-else-is_negative c = rw c.if-is_negative.false (omega (arith, ints, c.min.ensures))
