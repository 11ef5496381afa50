use Rattle.reverb_tuning.specs.Tuning.{length_of}
use Rattle.reverb_tuning.proofs.line_length.Goals as goal

pub returns : goal.returns
unfolding length_of
returns c = rw (c.from.ensures, c.from-2.ensures)
