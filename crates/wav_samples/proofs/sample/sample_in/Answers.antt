-- `sample::sample_in` meets its contract: the division is of two floats that are whole numbers. Assumes nothing.
use Rattle.wav_samples.proofs.Steps.{in_is}
use Rattle.wav_samples.proofs.Signed as sg
use Rattle.wav_samples.proofs.sample.sample_in.Goals as goal

pub returns : goal.returns
returns c = rw (c.from.ensures, sg.read_back c.args.s c.ranges.s.sfits) (in_is c.args.s c.ranges.s.sfits)
