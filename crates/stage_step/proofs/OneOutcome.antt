-- The promise of `place::process` admits one outcome: the frame that it gives, and what it leaves of the three stretches. Assumes nothing.
use Rattle.std.proofs.Common.{sym, ◌∙◌}
use Rattle.float.proofs.Outcome.{SingleLent}
use Rattle.line.specs.Held.{holds}
use Rattle.stage_step.proofs.place as place

pub process_single : SingleLent place.process.Reads.Post (λ κs s. holds s.1.1.1.1.0.now s.1.1.1.1.1.0.now s.1.1.1.1.1.1.0.now)
process_single κs a r r' s s' p q = let w = p ∙ sym q in ((λ i. (w i).frame), (λ i. (w i).held))
