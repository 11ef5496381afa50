-- "A fresh start makes checks 1 to 5, then clears the needed floats." Definitions only.
use Rattle.std.specs.Prelude.{cond, List, ◌++◌, ℕ, Float, length, replicate, drop}
use Rattle.std.specs.Float.{binary32}
use Rattle.float.specs.Literal.{literal}
use Rattle.memories.specs.declared.Memories.{Memories}
use Rattle.memories.specs.Memories.{zero_memories}
use Rattle.stage.specs.declared.setup.Setup.{Setup}
use Rattle.line_layout.specs.Layout.{needed_of}
use Rattle.answer.specs.Answer.{accepted_of}
use Rattle.refusals.specs.Refusals.{chain_answer}

-- what a cleared float is: 0.0, as the code writes it
abbrev pub clear_float : Float
clear_float = literal binary32 0 1

-- the store with its first n floats cleared, where it has so many
unfoldable pub cleared_to : ℕ → List Float → List Float
cleared_to n store = replicate n clear_float ++ drop n store

-- what a fresh start leaves in the store: the needed floats cleared, or all as it was where the start is refused
unfoldable pub started_of : Setup → List Float → List Float
unfolding cleared_to
started_of setup store =
    cond (accepted_of (chain_answer setup (needed_of setup) (length store))) (cleared_to (needed_of setup) store) store

-- the memories that a fresh start of this chain and store gives: "it takes no memories and gives them at zero, refused
-- or not"
abbrev pub start_memories : Setup → List Float → Memories
start_memories setup store = zero_memories
