-- A top stage is run on as many more frames as the block has for it: at each turn it is what is left of the order. Assumes nothing.
use Rattle.std.proofs.Common.{◌-◌, get_or, replicate}
use Rattle.chain.specs.Chain.{frames_of}
use Rattle.chain.specs.Block.{block}
use Rattle.chain.proofs.Turns.{Pending}
use Rattle.chain.proofs.plan.Plan.advance_to_end.Given as goal

abbrev pub invariant-loop-outcome : goal.invariant-loop-outcome
invariant-loop-outcome l =
    Pending l.self.layout.setup (block l.initial.samples l.initial.store l.initial.outcome) (replicate (frames_of l.initial.samples - get_or l.initial.outcome.progress l.k 0) l.k) (block l.samples l.store l.outcome)
    (replicate (frames_of l.initial.samples - get_or l.outcome.progress l.k 0) l.k)

abbrev pub decreases-loop-outcome : goal.decreases-loop-outcome
decreases-loop-outcome l = frames_of l.initial.samples - get_or l.outcome.progress l.k 0
