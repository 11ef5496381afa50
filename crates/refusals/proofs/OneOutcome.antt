-- Each public function's promise admits one outcome. What a function is lent by `&` it cannot change, so there too a caller sees the result and nothing else. Assumes nothing.
use Rattle.std.proofs.Common.{sym, ◌∙◌}
use Rattle.float.proofs.Outcome.{Single}
use Rattle.refusals.proofs.call as call
use Rattle.refusals.proofs.chain as chain
use Rattle.refusals.proofs.samples as samples
use Rattle.refusals.proofs.state as state

pub check_chain_single : Single chain.check_chain.Reads.Post
check_chain_single κs a r r' s s' p q = p ∙ sym q

pub check_state_single : Single state.check_state.Reads.Post
check_state_single κs a r r' s s' p q = p ∙ sym q

pub check_samples_single : Single samples.check_samples.Reads.Post
check_samples_single κs a r r' s s' p q = p ∙ sym q

pub check_single : Single call.check.Reads.Post
check_single κs a r r' s s' p q = rw (p.0 ∙ sym q.0, p.1 ∙ sym q.1, p.2 ∙ sym q.2, p.3 ∙ sym q.3)
