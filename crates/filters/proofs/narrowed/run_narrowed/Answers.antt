use Rattle.filters.specs.Narrowed.{narrowed_of}
use Rattle.filters.proofs.narrowed.run_narrowed.Goals as goal

pub returns : goal.returns
unfolding narrowed_of
returns c = rw (c.run.ensures, c.as_f32-3.ensures, c.as_f32-2.ensures, c.as_f32.ensures)
