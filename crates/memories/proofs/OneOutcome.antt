-- Each public function's promise admits one outcome: what it gives, and what `keep` leaves of the floats. Assumes nothing.
use Rattle.std.proofs.Common.{sym, ◌∙◌}
use Rattle.float.proofs.Outcome.{Single, SingleLent}
use Rattle.memories.proofs.zero as zero
use Rattle.memories.proofs.recall as recall
use Rattle.memories.proofs.keep as keep
use Rattle.memories.proofs.number_at as number_at

pub zero_single : Single zero.Reads.Post
zero_single κs a r r' s s' p q = p ∙ sym q

pub recall_single : Single recall.Reads.Post
recall_single κs a r r' s s' p q = p ∙ sym q

pub keep_single : SingleLent keep.Reads.Post (λ κs s. s.1.0.now)
keep_single κs a r r' s s' p q = (p.0 ∙ sym q.0, p.1 ∙ sym q.1)

pub number_at_single : Single number_at.Reads.Post
number_at_single κs a r r' s s' p q = p ∙ sym q
