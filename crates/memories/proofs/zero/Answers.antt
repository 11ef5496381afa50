-- `zero` meets its contract: the source's literals are the definition's. Assumes nothing.
use Rattle.std.proofs.Common.{refl}
use lib.Ieee.{of_bits, round}
use Rattle.float.specs.Literal.{literal}
use Rattle.memories.specs.Memories.{zero_memories}
use Rattle.memories.proofs.zero.Goals as goal

pub returns : goal.returns
unfolding zero_memories literal round of_bits
returns c = refl
