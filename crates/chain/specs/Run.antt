-- What a call answers, and what it leaves: all as it was where it is refused. Definitions only.
use Rattle.std.specs.Prelude.{cond, List, [], ℕ, Float, length}
use Rattle.line.specs.Held.{Held}
use Rattle.theory_order.specs.Chain.{State}
use Rattle.theory_order.specs.Finish.{finishing}
use Rattle.stage.specs.declared.setup.Setup.{Setup}
use Rattle.answer.specs.Answer.{Answer, accepted_of}
use Rattle.top_stages.specs.Tops.{tops_of}
use Rattle.refusals.specs.Refusals.{answer_of}
use Rattle.chain.specs.Chain.{frames_of, ordered}

-- what a call with this order answers: the first refusal that applies, or `accepted`
abbrev pub answer_on : Setup → State Float Held → List ℕ → Answer
answer_on setup s order = answer_of setup (length s.held.store) s.samples s.held.positions s.progress order

-- what a call leaves that checks this order and runs these entries: all as it was where the call is refused
abbrev pub leaves_by : Setup → State Float Held → List ℕ → List ℕ → State Float Held
leaves_by setup s order entries = cond (accepted_of (answer_on setup s order)) (ordered setup s entries) s

-- what `run` leaves: it checks the order and runs it
abbrev pub leaves_of : Setup → State Float Held → List ℕ → State Float Held
leaves_of setup s order = leaves_by setup s order order

-- the order that brings every top stage to the last frame, one stage after another, from wherever the block stands
abbrev pub order_to_end : Setup → State Float Held → List ℕ
order_to_end setup s = finishing (tops_of setup) (frames_of s.samples) s.progress

-- what `render` leaves: it checks an empty order and runs `order_to_end`
abbrev pub rendered_of : Setup → State Float Held → State Float Held
rendered_of setup s = leaves_by setup s [] (order_to_end setup s)
