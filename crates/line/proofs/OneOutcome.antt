-- Each public function's promise admits one outcome, in what it gives and in what it leaves of what it was lent. Assumes nothing.
use Rattle.std.proofs.Common.{refl, sym, ◌∙◌}
use Rattle.float.proofs.Outcome.{Single, SingleLent}
use Rattle.line.proofs.position as position
use Rattle.line.proofs.comb as comb
use Rattle.line.proofs.all_pass as all_pass
use Rattle.line.proofs.frames as frames

pub next_position_single : Single position.next_position.Reads.Post
next_position_single κs a r r' s s' p q = p ∙ sym q

pub frame_at_single : Single frames.frame_at.Reads.Post
frame_at_single κs a r r' s s' p q = p ∙ sym q

pub put_frame_single : SingleLent frames.put_frame.Reads.Post (λ κs s. s.0.now)
put_frame_single κs a r r' s s' p q = (refl, p ∙ sym q)

pub comb_single : SingleLent comb.process.Reads.Post (λ κs s. s.0.now)
comb_single κs a r r' s s' p q = (p.0 ∙ sym q.0, p.1 ∙ sym q.1)

pub all_pass_single : SingleLent all_pass.process.Reads.Post (λ κs s. s.0.now)
all_pass_single κs a r r' s s' p q = (p.0 ∙ sym q.0, p.1 ∙ sym q.1)
