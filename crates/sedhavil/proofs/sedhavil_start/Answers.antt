-- A call that cannot be read is refused; of any other, what `start` promises, of the chain that the words are. Assumes nothing.
use Rattle.std.proofs.Common.{rules, ◌∙◌}
use Rattle.sedhavil.specs.Face.{start_reply, start_leaves}
use Rattle.sedhavil.proofs.Calls.{call_ok, call_err, call_sized}
use Rattle.sedhavil.proofs.sedhavil_start.Goals as goal

pub copy_from_slice-requires : goal.copy_from_slice-requires
copy_from_slice-requires c = (call_sized _ _ _ _ _ c.in-Ok.ensures).positions_all ∙ search rules

pub copy_from_slice-requires-in-Ok : goal.copy_from_slice-requires-in-Ok
copy_from_slice-requires-in-Ok c = (call_sized _ _ _ _ _ c.in-Ok.ensures).floats_all ∙ search rules

pub returns-in-Ok-clause-answer : goal.returns-in-Ok-clause-answer
unfolding start_reply
returns-in-Ok-clause-answer c =
    let e = call_ok _ _ _ _ _ c.in-Ok.ensures in
    rw (e.0, c.from.ensures, c.start-started.ensures.answer.0, e.1)

pub returns-in-Ok-clause-leaves : goal.returns-in-Ok-clause-leaves
unfolding start_leaves
returns-in-Ok-clause-leaves c =
    let e = call_ok _ _ _ _ _ c.in-Ok.ensures in
    rw (e.0, c.start-started.ensures.leaves, c.copy_from_slice.ensures.after, c.copy_from_slice-in-Ok.ensures.after, c.start-started.ensures.answer.1, e.1)

pub returns-in-Err-clause-answer : goal.returns-in-Err-clause-answer
unfolding start_reply
returns-in-Err-clause-answer c = let e = call_err _ _ _ _ _ c.in-Err.ensures in rw (e.1, e.0)

pub returns-in-Err-clause-leaves : goal.returns-in-Err-clause-leaves
unfolding start_leaves
returns-in-Err-clause-leaves c = rw (call_err _ _ _ _ _ c.in-Err.ensures).0
