-- Each public function's promise admits one outcome. Assumes nothing.
use Rattle.std.proofs.Common.{sym, ◌∙◌}
use Rattle.float.proofs.Outcome.{Single}
use Rattle.wav_header.proofs.number as number
use Rattle.wav_header.proofs.HeaderRefusal.number as refusal-number
use Rattle.wav_header.proofs.read as read

pub number_single : Single number.Reads.Post
number_single κs a r r' s s' p q = p ∙ sym q

pub refusal_number_single : Single refusal-number.Reads.Post
refusal_number_single κs a r r' s s' p q = p ∙ sym q

pub read_single : Single read.Reads.Post
read_single κs a r r' s s' p q = p ∙ sym q
