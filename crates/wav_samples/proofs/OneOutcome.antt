-- Each public function's promise admits one outcome: the answer, and what is left of what was lent. Assumes nothing.
use Rattle.std.proofs.Common.{sym, ◌∙◌}
use Rattle.float.proofs.Outcome.{Single, SingleLent}
use Rattle.wav_samples.proofs.sample as sample
use Rattle.wav_samples.proofs.frames as frames

pub sample_in_single : Single sample.sample_in.Reads.Post
sample_in_single κs a r r' s s' p q = p ∙ sym q

pub sample_out_single : Single sample.sample_out.Reads.Post
sample_out_single κs a r r' s s' p q = p ∙ sym q

-- what `frames_in` leaves: the samples
pub frames_in_single : SingleLent frames.frames_in.Reads.Post (λ κs s. s.1.0.now)
frames_in_single κs a r r' s s' p q = (p.0 ∙ sym q.0, p.1 ∙ sym q.1)

-- what `frames_out` leaves: the bytes
pub frames_out_single : SingleLent frames.frames_out.Reads.Post (λ κs s. s.1.0.now)
frames_out_single κs a r r' s s' p q = (p.0 ∙ sym q.0, p.1 ∙ sym q.1)
