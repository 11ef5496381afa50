-- Words that cannot be read are refused; any other chain gets what `check_chain` promises of a store of the needed floats. Assumes nothing.
use Rattle.std.proofs.Common.{Err}
use Rattle.answer.proofs.Numbered.{accepted_numbered}
use Rattle.sedhavil.specs.Call.{reply_of, room_of}
use Rattle.sedhavil.specs.Face.{needed_room}
use Rattle.sedhavil.proofs.Calls.{setup_ok, setup_err}
use Rattle.sedhavil.proofs.sedhavil_floats_needed.Goals as goal

pub returns-in-Ok-check_chain : goal.returns-in-Ok-check_chain
unfolding needed_room reply_of room_of
returns-in-Ok-check_chain c =
    let e = setup_ok _ _ c.in-Ok.ensures in
    rw (e.0, ← e.1, ← c.needed-floats.ensures, ← c.check_chain.ensures, c.in-Ok-check_chain.is)

pub returns-in-Err-check_chain : goal.returns-in-Err-check_chain
unfolding needed_room reply_of room_of
returns-in-Err-check_chain c =
    let e = setup_ok _ _ c.in-Ok.ensures in
    rw (c.no_room.ensures, c.from.ensures, e.0, ← e.1, ← c.needed-floats.ensures, ← c.check_chain.ensures, c.in-Err-check_chain.is, ← accepted_numbered (Err c.in-Err-check_chain.refusal))

pub returns-in-Err : goal.returns-in-Err
unfolding needed_room
returns-in-Err c =
    let e = setup_err _ _ c.in-Err.ensures in
    rw (c.no_room-in-Err.ensures, e.1, e.0)
