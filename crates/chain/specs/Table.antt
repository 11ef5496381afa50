-- Demand 1 of the user, about what `run`, `render` and `start` answer and leave: "a refusal comes exactly under its
-- condition, gives its number and place, and changes no sample, line, memory or progress". The rows of the table, each
-- with its number, condition and place, are in specs/Refusals.antt of crate refusals; `ByTheTable` is in crate
-- theory_tables. Definitions only.
use Rattle.std.specs.Prelude.{◌≡◌, true, false, List, [], ◌++◌, ℕ, Float, length, replicate, drop}
use Rattle.std.specs.Float.{binary32}
use Rattle.std.specs.Float.Ieee.{of_bits}
use Rattle.line.specs.Held.{Held}
use Rattle.theory_order.specs.Chain.{State}
use Rattle.theory_tables.specs.Rows.{ByTheTable}
use Rattle.memories.specs.Sizes.{all_positions, all_floats}
use Rattle.stage.specs.declared.setup.Setup.{Setup}
use Rattle.stage.specs.Setup.{used_of}
use Rattle.line_layout.specs.Layout.{needed_of}
use Rattle.answer.specs.Answer.{accepted, number_of, place_of, accepted_of}
use Rattle.refusals.specs.Refusals.{chain_rows, refusal_rows, chain_answer}
use Rattle.chain.specs.Chain.{ordered}
use Rattle.chain.specs.Run.{answer_on, leaves_of, rendered_of}
use Rattle.fresh_start.specs.Start.{started_of, start_memories}

-- a call of `run` answers by the table: "a refusal comes exactly under its condition, gives its number and place, and
-- changes no sample, line, memory or progress"
pub record Tabled (setup : Setup) (s : State Float Held) (order : List ℕ) : Type 0 where
  pub answer : ByTheTable number_of place_of
      (refusal_rows setup (length s.held.store) s.samples s.held.positions s.progress order) accepted
      (answer_on setup s order)
  pub unchanged : accepted_of (answer_on setup s order) ≡ false → leaves_of setup s order ≡ s
  -- "what meets none of document 01's eleven refusals is rendered": the order is run, entry by entry
  pub rendered : accepted_of (answer_on setup s order) ≡ true → leaves_of setup s order ≡ ordered setup s order
  -- where a call is accepted, every stage of the list has a place: none is passed over
  pub all_used : accepted_of (answer_on setup s order) ≡ true → used_of setup ≡ setup.count

-- "any rate, settings, samples, memories, line store, progress and step order may be passed in": every call of `run`
-- answers by the table
abbrev pub AnswersTabled : Type 0
AnswersTabled = (setup : Setup) (s : State Float Held) (order : List ℕ) → Tabled setup s order

-- `render`, which answers as `run` does with an empty order, changes nothing where that is refused
abbrev pub RenderUnchanged : Type 0
RenderUnchanged = (setup : Setup) (s : State Float Held) → accepted_of (answer_on setup s []) ≡ false
    → rendered_of setup s ≡ s

-- +0: the f32 whose bits are all 0
abbrev pub plus_zero : Float
plus_zero = of_bits binary32 0

-- "a fresh start makes checks 1 to 5, then clears the needed floats"; refused, it changes no float
pub record StartTabled (setup : Setup) (store : List Float) : Type 0 where
  pub answer : ByTheTable number_of place_of (chain_rows setup (needed_of setup) (length store)) accepted
      (chain_answer setup (needed_of setup) (length store))
  pub unchanged :
      accepted_of (chain_answer setup (needed_of setup) (length store)) ≡ false → started_of setup store ≡ store
  pub cleared : accepted_of (chain_answer setup (needed_of setup) (length store)) ≡ true
      → started_of setup store ≡ replicate (needed_of setup) plus_zero ++ drop (needed_of setup) store
  pub all_used : accepted_of (chain_answer setup (needed_of setup) (length store)) ≡ true → used_of setup ≡ setup.count
  -- "it takes no memories and gives them at zero, refused or not": all positions at 0 and all floats at +0
  pub positions : (start_memories setup store).positions ≡ replicate all_positions 0
  pub floats : (start_memories setup store).floats ≡ replicate all_floats plus_zero

-- every call of `start` answers by rows 1 to 5 of the table
abbrev pub StartsTabled : Type 0
StartsTabled = (setup : Setup) (store : List Float) → StartTabled setup store
