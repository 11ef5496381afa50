-- An accepted call can be run: there is room, and its entries may be run one after another. Assumes nothing.
use Rattle.std.proofs.Common.{rules}
use Rattle.chain.specs.Block.{block}
use Rattle.chain.specs.Demands.{Arrays}
use Rattle.chain.proofs.Running.{plan_runs}
use Rattle.chain.proofs.run.run.Goals as goal
use Rattle.chain.proofs.run.run.Goals.{Start}

arrays : (z : Start) → Arrays (block z.args.samples.now z.args.store.now (record { memories = z.args.memories; progress = z.args.progress }))
arrays z = record { positions = search rules; floats = search rules; progress = search rules }

pub advance_all-requires-clause-ready : goal.advance_all-requires-clause-ready
advance_all-requires-clause-ready c = (plan_runs _ _ _ (arrays (goal.at.advance_all-requires-clause-ready c).Start) c.in_ok-plan.ensures.answer c.in_ok-plan.ensures.setup).can

pub advance_all-requires-clause-orderly : goal.advance_all-requires-clause-orderly
advance_all-requires-clause-orderly c = (plan_runs _ _ _ (arrays (goal.at.advance_all-requires-clause-orderly c).Start) c.in_ok-plan.ensures.answer c.in_ok-plan.ensures.setup).runs
