use Rattle.std.proofs.Common.{◌+◌, ◌*◌, arith}
use lib.Seq.{set_out}
use Rattle.line.specs.Frames.{frame_in}
use Rattle.line.proofs.frames.put_frame.Goals as goal

pub returns-then-at-line : goal.returns-then-at-line
unfolding frame_in
returns-then-at-line c = rw (c.put_float-then-at-line.ensures, c.put_float.ensures)

pub returns-else-at-line : goal.returns-else-at-line
unfolding frame_in
returns-else-at-line c =
    let l = c.args.line.now in
    let at = c.args.at in
    let x = c.args.x in
    rw (set_out l (2 * at) x.left (omega arith), set_out l (2 * at + 1) x.right (omega arith))
