-- What a call carries along, the memories and the progress, as one value; and what it answers and gives back.
-- Definitions only.
use Rattle.std.specs.Prelude.{List, ℕ, Float, Result, Ok, Err}
use Rattle.line.specs.Held.{Held}
use Rattle.theory_order.specs.Chain.{State}
use Rattle.memories.specs.declared.Memories.{Memories}
use Rattle.answer.specs.declared.Refusal.{Refusal}
use Rattle.answer.specs.Answer.{Answer, accepted}
use Rattle.chain.specs.declared.run.Outcome.{Outcome}
use Rattle.chain.specs.Chain.{state}

-- the state of a block: its samples, the line store, and the memories and the progress that a call carries along
abbrev pub block : List Float → List Float → Outcome → State Float Held
block samples store outcome = state samples store outcome.memories.positions outcome.memories.floats outcome.progress

-- what a call answers, by what it gives back
abbrev pub answer_given : {A : Type 0} → Result A Refusal → Answer
answer_given (Ok given) = accepted
answer_given (Err refusal) = Err refusal

-- the memories and the progress after a call: where it is refused, those that were passed in
abbrev pub carried : Memories → List ℕ → Result Outcome Refusal → Outcome
carried memories progress (Ok outcome) = outcome
carried memories progress (Err refusal) = record { memories = memories; progress = progress }
