-- Each public function's promise admits one outcome. Assumes nothing.
use Rattle.std.proofs.Common.{sym, ◌∙◌}
use Rattle.float.proofs.Outcome.{Single}
use Rattle.reverb_tuning.proofs.line_length as line-length
use Rattle.reverb_tuning.proofs.reverb_line as reverb-line
use Rattle.reverb_tuning.proofs.floats_from as floats-from
use Rattle.reverb_tuning.proofs.reverb_floats as reverb_floats_lem

pub line_length_single : Single line-length.Reads.Post
line_length_single κs a r r' s s' p q = p ∙ sym q

pub reverb_line_single : Single reverb-line.Reads.Post
reverb_line_single κs a r r' s s' p q = p ∙ sym q

pub floats_from_single : Single floats-from.Reads.Post
floats_from_single κs a r r' s s' p q = p ∙ sym q

pub reverb_floats_single : Single reverb_floats_lem.Reads.Post
reverb_floats_single κs a r r' s s' p q = p ∙ sym q
