-- An order is run entry by entry: at each turn the rest of it is left. Assumes nothing.
use Rattle.chain.proofs.Turns.{pending_next, all_turn}
use Rattle.chain.proofs.plan.Plan.advance_all.Goals as goal

pub loop-k-preserved : goal.loop-k-preserved
loop-k-preserved c = pending_next (all_turn _ c.loop-k-test.true c.loop-k.invariant) c.advance.ensures
