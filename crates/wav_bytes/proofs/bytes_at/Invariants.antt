-- The bytes before this one are found.
use Rattle.std.proofs.Common.{◌≡◌, ℕ, ◌+◌, ◌<◌, length, get_or}
use Rattle.wav_bytes.proofs.bytes_at.Given as goal

abbrev pub invariant-loop-k : goal.invariant-loop-k
invariant-loop-k g l = (length l.byte-items ≡ l.k-end) × ((k : ℕ) → k < l.k → get_or l.byte-items k 0 ≡ get_or l.bytes (l.at + k) 0)
