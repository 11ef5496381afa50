-- `keep` meets its contract: the second frame is put where the first is already in place. Assumes nothing.
use Rattle.std.proofs.Common.{refl}
use Rattle.memories.specs.Kinds.{remember}
use Rattle.memories.proofs.keep.Goals as goal

pub returns : goal.returns
unfolding remember
returns c = (refl, rw (c.put_frame-2.ensures, c.put_frame.ensures))
