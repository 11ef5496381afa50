-- Each public function's promise admits one outcome. Assumes nothing.
use Rattle.std.proofs.Common.{sym, ◌∙◌}
use Rattle.float.proofs.Outcome.{Single}
use Rattle.decibels.proofs.amplitude as amplitude
use Rattle.decibels.proofs.eq_amplitude as eq-amplitude

pub amplitude_single : Single amplitude.Reads.Post
amplitude_single κs a r r' s s' p q = p ∙ sym q

pub eq_amplitude_single : Single eq-amplitude.Reads.Post
eq_amplitude_single κs a r r' s s' p q = p ∙ sym q
