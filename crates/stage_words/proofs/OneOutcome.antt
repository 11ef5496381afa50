-- Each public function's promise admits one outcome. `first_unknown` and `setup_of` are lent the words by `&`, which they cannot change, so a caller sees the result and nothing else. Assumes nothing.
use Rattle.std.proofs.Common.{sym, ◌∙◌}
use Rattle.float.proofs.Outcome.{Single}
use Rattle.stage_words.proofs.layout_version as layout-version
use Rattle.stage_words.proofs.first_unknown as first-unknown
use Rattle.stage_words.proofs.setup_of as setup-of

pub layout_version_single : Single layout-version.Reads.Post
layout_version_single κs a r r' s s' p q = p ∙ sym q

pub first_unknown_single : Single first-unknown.Reads.Post
first_unknown_single κs a r r' s s' p q = p ∙ sym q

pub setup_of_single : Single setup-of.Reads.Post
setup_of_single κs a r r' s s' p q = p ∙ sym q
