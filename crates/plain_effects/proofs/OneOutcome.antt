-- Each public function's promise admits one outcome. Assumes nothing.
use Rattle.std.proofs.Common.{sym, ◌∙◌}
use Rattle.float.proofs.Outcome.{Single}
use Rattle.plain_effects.proofs.volume_control.process as volume
use Rattle.plain_effects.proofs.panning_control.process as panning
use Rattle.plain_effects.proofs.distortion.process as distortion

pub volume_single : Single volume.Reads.Post
volume_single κs a r r' s s' p q = p ∙ sym q

pub panning_single : Single panning.Reads.Post
panning_single κs a r r' s s' p q = p ∙ sym q

pub distortion_single : Single distortion.Reads.Post
distortion_single κs a r r' s s' p q = p ∙ sym q
