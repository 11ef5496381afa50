-- Each exported function's promise admits one outcome: the answer, and what is left of what was lent. Assumes nothing.
use Rattle.std.proofs.Common.{sym, ◌∙◌}
use Rattle.float.proofs.Outcome.{Single, SingleLent}
use Rattle.sedhavil_wav.proofs.sedhavil_wav_header as wav-header
use Rattle.sedhavil_wav.proofs.sedhavil_wav_frames_in as frames-in
use Rattle.sedhavil_wav.proofs.sedhavil_wav_frames_out as frames-out

pub wav_header_single : Single wav-header.Reads.Post
wav_header_single κs a r r' s s' p q = p ∙ sym q

-- what `frames_in` leaves, the samples, and what `frames_out` does, the bytes
pub frames_in_single : SingleLent frames-in.Reads.Post (λ κs s. s.1.0.now)
frames_in_single κs a r r' s s' p q = (p.0 ∙ sym q.0, p.1 ∙ sym q.1)

pub frames_out_single : SingleLent frames-out.Reads.Post (λ κs s. s.1.0.now)
frames_out_single κs a r r' s s' p q = (p.0 ∙ sym q.0, p.1 ∙ sym q.1)
