-- The memories that a fresh start gives: it "takes no memories and gives them at zero". Definitions only.
use Rattle.std.specs.Float.{binary32}
use Rattle.std.specs.Prelude.{replicate}
use Rattle.float.specs.Literal.{literal}
use Rattle.memories.specs.declared.Memories.{Memories}
use Rattle.memories.specs.Sizes.{all_positions, all_floats}

-- the memories of all places: every position is 0, and every float is +0
unfoldable pub zero_memories : Memories
zero_memories = record { positions = replicate all_positions 0; floats = replicate all_floats (literal binary32 0 1) }
