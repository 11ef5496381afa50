-- Stage after stage is run to the last frame: at each turn the stages from k on are what is left of the order. Assumes nothing.
use Rattle.chain.specs.Block.{block}
use Rattle.chain.proofs.Turns.{Finished}
use Rattle.chain.proofs.plan.Plan.finish.Given as goal

abbrev pub invariant-loop-k : goal.invariant-loop-k
invariant-loop-k l = Finished l.self.layout.setup (block l.initial.samples l.initial.store l.initial.outcome) l.k (block l.samples l.store l.outcome)
