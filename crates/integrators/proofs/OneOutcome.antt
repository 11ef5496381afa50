-- Each public function's promise admits one outcome. Assumes nothing.
use Rattle.std.proofs.Common.{sym, ◌∙◌}
use Rattle.float.proofs.Outcome.{Single}
use Rattle.integrators.proofs.weigh as weigh
use Rattle.integrators.proofs.run as run

pub weigh_single : Single weigh.Reads.Post
weigh_single κs a r r' s s' p q = p ∙ sym q

pub run_single : Single run.Reads.Post
run_single κs a r r' s s' p q = p ∙ sym q
