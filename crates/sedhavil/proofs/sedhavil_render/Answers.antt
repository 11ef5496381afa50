-- A call that cannot be read is refused; of any other, what `render` promises, of the chain that the words are and of what was lent. Assumes nothing.
use Rattle.std.proofs.Common.{[]}
use Rattle.chain.specs.Run.{answer_on, rendered_of}
use Rattle.sedhavil.specs.Face.{render_reply, render_leaves}
use Rattle.sedhavil.proofs.BlockTaken.{taken_answer, taken_leaves}
use Rattle.sedhavil.proofs.Calls.{call_err, call_sized}
use Rattle.sedhavil.proofs.sedhavil_render.Goals as goal

pub hand_back-requires-clause-positions : goal.hand_back-requires-clause-positions
hand_back-requires-clause-positions c = (call_sized _ _ _ _ _ c.in-Ok.ensures).positions_all

pub hand_back-requires-clause-floats : goal.hand_back-requires-clause-floats
hand_back-requires-clause-floats c = (call_sized _ _ _ _ _ c.in-Ok.ensures).floats_all

pub hand_back-requires-clause-progress : goal.hand_back-requires-clause-progress
hand_back-requires-clause-progress c = (call_sized _ _ _ _ _ c.in-Ok.ensures).progress_all

pub returns-in-Ok-clause-answer : goal.returns-in-Ok-clause-answer
unfolding render_reply
returns-in-Ok-clause-answer c = taken_answer _ _ _ _ _ _ _ c.render-given.result c.in-Ok.ensures (λ setup s. answer_on setup s []) c.render-given.ensures.answer c.hand_back.ensures.reply

pub returns-in-Ok-clause-leaves : goal.returns-in-Ok-clause-leaves
unfolding render_leaves
returns-in-Ok-clause-leaves c = taken_leaves _ _ _ _ _ _ _ c.render-given.result c.in-Ok.ensures (rendered_of) c.render-given.ensures.leaves c.hand_back.ensures.carried

pub returns-in-Err-clause-answer : goal.returns-in-Err-clause-answer
unfolding render_reply
returns-in-Err-clause-answer c = let e = call_err _ _ _ _ _ c.in-Err.ensures in rw (e.1, e.0)

pub returns-in-Err-clause-leaves : goal.returns-in-Err-clause-leaves
unfolding render_leaves
returns-in-Err-clause-leaves c = rw (call_err _ _ _ _ _ c.in-Err.ensures).0
