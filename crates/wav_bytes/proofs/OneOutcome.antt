-- Each public function's promise admits one outcome. Assumes nothing.
use Rattle.std.proofs.Common.{sym, ◌∙◌}
use Rattle.float.proofs.Outcome.{Single}
use Rattle.wav_bytes.proofs.two_at as two-at
use Rattle.wav_bytes.proofs.four_at as four-at

pub two_at_single : Single two-at.Reads.Post
two_at_single κs a r r' s s' p q = p ∙ sym q

pub four_at_single : Single four-at.Reads.Post
four_at_single κs a r r' s s' p q = p ∙ sym q
