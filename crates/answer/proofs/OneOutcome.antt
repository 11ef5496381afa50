-- Each public function's promise admits one outcome. Assumes nothing.
use Rattle.std.proofs.Common.{sym, ◌∙◌}
use Rattle.float.proofs.Outcome.{Single}
use Rattle.answer.proofs.number as number
use Rattle.answer.proofs.place as place
use Rattle.answer.proofs.Refusal.number as refusal-number
use Rattle.answer.proofs.Refusal.place as refusal-place

pub number_single : Single number.Reads.Post
number_single κs a r r' s s' p q = p ∙ sym q

pub place_single : Single place.Reads.Post
place_single κs a r r' s s' p q = p ∙ sym q

pub refusal_number_single : Single refusal-number.Reads.Post
refusal_number_single κs a r r' s s' p q = p ∙ sym q

pub refusal_place_single : Single refusal-place.Reads.Post
refusal_place_single κs a r r' s s' p q = p ∙ sym q
