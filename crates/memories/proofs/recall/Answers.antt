-- `recall` meets its contract: the two frames are the record. Assumes nothing.
use Rattle.memories.specs.Kinds.{remembered}
use Rattle.memories.proofs.recall.Goals as goal

pub returns : goal.returns
unfolding remembered
returns c = rw (c.frame_at-2.ensures, c.frame_at.ensures)
