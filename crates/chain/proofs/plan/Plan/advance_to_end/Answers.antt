-- A top stage is run on as many more frames as the block has for it: at each turn it is what is left of the order. Assumes nothing.
use Rattle.std.proofs.Common.{arith}
use Rattle.chain.proofs.Turns.{end_moved, end_next}
use Rattle.chain.proofs.plan.Plan.advance_to_end.Goals as goal

pub loop-outcome-smaller : goal.loop-outcome-smaller
loop-outcome-smaller c = omega (arith, end_moved _ c.loop-outcome-test.true c.loop-outcome.invariant c.advance.ensures, c.loop-outcome-test.true)

pub loop-outcome-preserved : goal.loop-outcome-preserved
loop-outcome-preserved c = end_next _ c.loop-outcome-test.true c.loop-outcome.invariant c.advance.ensures
