-- What reading a call gives: the chain that its words are and what it carries along, or why it cannot be read.
-- Definitions only.
use Rattle.std.specs.Prelude.{List, ℕ, Float, length, Result, Ok, Err}
use Rattle.memories.specs.Sizes.{places, all_positions, all_floats}
use Rattle.stage.specs.declared.setup.Setup.{Setup}
use Rattle.stage_words.specs.Words.{setup_of}
use Rattle.chain.specs.declared.run.Outcome.{Outcome}
use Rattle.sedhavil.specs.declared.Reply.{Reply}
use Rattle.sedhavil.specs.declared.read.Call.{Call}
use Rattle.sedhavil.specs.Call.{fault_of, read}

-- the memories and the progress that a call begins with, out of what it is lent
abbrev pub carried_in : List ℕ → List Float → List ℕ → Outcome
carried_in positions floats progress =
    record { memories = record { positions = positions; floats = floats }; progress = progress }

-- a call on a block: its chain, and what it carries along; or its fault, where it cannot be read
unfoldable pub call_of : ℕ → List ℕ → List ℕ → List Float → List ℕ → Result Call Reply
call_of rate words positions floats progress =
    let fault = fault_of words (length positions) (length floats) (length progress) in
    read fault (Ok (record { setup = setup_of rate words; carried = carried_in positions floats progress })) (Err fault)

-- a chain alone, with nothing lent beside its words; or the fault of the words
unfoldable pub setup_or_fault : ℕ → List ℕ → Result Setup Reply
setup_or_fault rate words =
    let fault = fault_of words all_positions all_floats places in
    read fault (Ok (setup_of rate words)) (Err fault)
