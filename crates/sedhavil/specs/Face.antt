-- What each exported function replies and leaves. A call that can be read gets what the crates `chain` and
-- `fresh_start` answer and leave; one that cannot gets its fault, and leaves everything as it was. Definitions only.
use Rattle.std.specs.Prelude.{List, [], ℕ, Float, length}
use Rattle.line.specs.Held.{Held, holds}
use Rattle.theory_order.specs.Chain.{State}
use Rattle.refusals.specs.Refusals.{chain_answer}
use Rattle.memories.specs.Sizes.{places, all_positions, all_floats}
use Rattle.line_layout.specs.Layout.{needed_of}
use Rattle.chain.specs.Run.{answer_on, leaves_of, rendered_of}
use Rattle.fresh_start.specs.Start.{started_of, start_memories}
use Rattle.stage_words.specs.Words.{setup_of}
use Rattle.sedhavil.specs.declared.Reply.{Reply}
use Rattle.sedhavil.specs.declared.Room.{Room}
use Rattle.sedhavil.specs.Call.{reply_of, room_of, fault_of, read}

-- ---- run and render

-- why a call on a block cannot be read: by its words and the lengths of what it is lent
abbrev pub block_fault : List ℕ → State Float Held → Reply
block_fault words s = fault_of words (length s.held.positions) (length s.held.floats) (length s.progress)

-- what `sedhavil_run` replies, by the rate, the words, the block as it is lent, and the order
unfoldable pub run_reply : ℕ → List ℕ → State Float Held → List ℕ → Reply
run_reply rate words s order =
    read (block_fault words s) (reply_of (answer_on (setup_of rate words) s order)) (block_fault words s)

-- what it leaves of the block
unfoldable pub run_leaves : ℕ → List ℕ → State Float Held → List ℕ → State Float Held
run_leaves rate words s order = read (block_fault words s) (leaves_of (setup_of rate words) s order) s

-- what `sedhavil_render` replies: what `sedhavil_run` replies to an empty order
unfoldable pub render_reply : ℕ → List ℕ → State Float Held → Reply
render_reply rate words s =
    read (block_fault words s) (reply_of (answer_on (setup_of rate words) s [])) (block_fault words s)

-- what it leaves of the block
unfoldable pub render_leaves : ℕ → List ℕ → State Float Held → State Float Held
render_leaves rate words s = read (block_fault words s) (rendered_of (setup_of rate words) s) s

-- ---- start

-- why a start cannot be read: by its words and the lengths of positions and floats; it is lent no progress
abbrev pub start_fault : List ℕ → Held → Reply
start_fault words h = fault_of words (length h.positions) (length h.floats) places

-- what `sedhavil_start` replies, by the rate, the words, and the lines and memories that it is lent
unfoldable pub start_reply : ℕ → List ℕ → Held → Reply
start_reply rate words h =
    read (start_fault words h)
    (reply_of (chain_answer (setup_of rate words) (needed_of (setup_of rate words)) (length h.store)))
    (start_fault words h)

-- what it leaves of lines and memories: memories are zero afterwards, also where the chain is refused
unfoldable pub start_leaves : ℕ → List ℕ → Held → Held
start_leaves rate words h =
    read (start_fault words h)
    (let memories = start_memories (setup_of rate words) h.store in
    holds (started_of (setup_of rate words) h.store) memories.positions memories.floats)
    h

-- ---- floats needed

-- why the words of stages cannot be read, with nothing lent beside them
abbrev pub words_fault : List ℕ → Reply
words_fault words = fault_of words all_positions all_floats places

-- what `sedhavil_floats_needed` replies: the floats that the lines of all stages take, and the answer to a start
-- with a store of exactly that many
unfoldable pub needed_room : ℕ → List ℕ → Room
needed_room rate words =
    let floats = needed_of (setup_of rate words) in
    read (words_fault words)
    (room_of (reply_of (chain_answer (setup_of rate words) floats floats)) floats)
    (room_of (words_fault words) 0)
