-- The promise of `start` admits one outcome: the answer, the memories, and what it leaves of the store. Assumes nothing.
use Rattle.std.proofs.Common.{sym, ◌∙◌}
use Rattle.float.proofs.Outcome.{SingleLent}
use Rattle.fresh_start.proofs.start as start

pub start_single : SingleLent start.start.Reads.Post (λ κs s. s.1.0.now)
start_single κs a r r' s s' p q = ((λ i. record { answer = (p.0.0 ∙ sym q.0.0) i; memories = (p.0.1 ∙ sym q.0.1) i }), p.1 ∙ sym q.1)
