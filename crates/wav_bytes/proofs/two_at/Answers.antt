-- `two_at` meets its contract. Assumes nothing.
use Rattle.std.proofs.Common.{add-zero, lit<, arith}
use Rattle.wav_bytes.specs.Bytes.{two_at}
use Rattle.wav_bytes.proofs.two_at.Goals as goal

pub returns : goal.returns
unfolding two_at
returns c =
    let b = c.bytes_at.ensures in
    omega (arith, c.from_le_bytes.ensures, rw add-zero at (b 0 (lit< tt)), b 1 (lit< tt))
