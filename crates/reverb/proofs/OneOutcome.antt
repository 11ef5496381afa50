-- The public function's promise admits one outcome, in what it gives and in what it leaves of what it was lent. Assumes nothing.
use Rattle.std.proofs.Common.{sym, ◌∙◌}
use Rattle.float.proofs.Outcome.{SingleLent}
use Rattle.line.specs.Held.{holds}
use Rattle.reverb.proofs.process as process

pub process_single : SingleLent process.Reads.Post (λ κs s. holds s.1.1.1.1.1.1.0.now s.1.1.1.1.1.1.1.0.now s.1.1.1.1.1.1.1.1.0.now)
process_single κs a r r' s s' p q = let w = p ∙ sym q in ((λ i. (w i).frame), (λ i. (w i).held))
