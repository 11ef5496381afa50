-- Each public function's promise admits one outcome. Assumes nothing.
use Rattle.std.proofs.Common.{sym, ◌∙◌}
use Rattle.float.proofs.Outcome.{Single}
use Rattle.kind_codes.proofs.clip_at as clip-at
use Rattle.kind_codes.proofs.mode_at as mode-at
use Rattle.kind_codes.proofs.eq_kind_at as eq-kind-at

pub clip_at_single : Single clip-at.Reads.Post
clip_at_single κs a r r' s s' p q = p ∙ sym q

pub mode_at_single : Single mode-at.Reads.Post
mode_at_single κs a r r' s s' p q = p ∙ sym q

pub eq_kind_at_single : Single eq-kind-at.Reads.Post
eq_kind_at_single κs a r r' s s' p q = p ∙ sym q
