use Rattle.std.proofs.Common.{◌+◌, ◌*◌, arith}
use Rattle.std.specs.Float.{nan}
use lib.Ieee.{div, of_bits}
use lib.ListN.{get_or-eq_default}
use Rattle.frame.specs.Operations.{from_mono_of}
use Rattle.line.specs.Frames.{frame_at}
use Rattle.line.proofs.frames.frame_at.Goals as goal

pub returns-then-at-line : goal.returns-then-at-line
unfolding frame_at
returns-then-at-line c = rw (c.float_at.ensures, c.float_at-then-at-line.ensures)

pub returns-else-at-line : goal.returns-else-at-line
unfolding frame_at from_mono_of div of_bits
returns-else-at-line c =
    let l = c.args.line.now in
    let at = c.args.at in
    rw (c.from_mono.ensures, get_or-eq_default l nan {n = 2 * at} (omega arith), get_or-eq_default l nan {n = 2 * at + 1} (omega arith))
