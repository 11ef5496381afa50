-- An accepted call can be run: there is room. Assumes nothing.
use Rattle.std.proofs.Common.{rules, []}
use Rattle.chain.specs.Block.{block}
use Rattle.chain.specs.Demands.{Arrays}
use Rattle.chain.proofs.Running.{plan_runs}
use Rattle.chain.proofs.render.render.Goals as goal
use Rattle.chain.proofs.render.render.Goals.{Start}

arrays : (z : Start) → Arrays (block z.args.samples.now z.args.store.now (record { memories = z.args.memories; progress = z.args.progress }))
arrays z = record { positions = search rules; floats = search rules; progress = search rules }

pub finish-requires : goal.finish-requires
finish-requires c = record { ready = (plan_runs _ _ [] (arrays (goal.at.finish-requires c).Start) c.in_ok-plan.ensures.answer c.in_ok-plan.ensures.setup).can }
