-- `four_at` meets its contract. Assumes nothing.
use Rattle.std.proofs.Common.{add-zero, add_assoc, lit<, arith}
use Rattle.wav_bytes.specs.Bytes.{two_at, four_at}
use Rattle.wav_bytes.proofs.four_at.Goals as goal

pub returns : goal.returns
unfolding two_at four_at
returns c =
    let b = c.bytes_at.ensures in
    rw (add_assoc c.args.at 2 1) (omega (arith, c.from_le_bytes.ensures, rw add-zero at (b 0 (lit< tt)), b 1 (lit< tt), b 2 (lit< tt), b 3 (lit< tt)))
