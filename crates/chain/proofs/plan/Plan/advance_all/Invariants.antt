-- An order is run entry by entry: at each turn the rest of it is left. Assumes nothing.
use Rattle.std.proofs.Common.{drop}
use Rattle.chain.specs.Block.{block}
use Rattle.chain.proofs.Turns.{Pending}
use Rattle.chain.proofs.plan.Plan.advance_all.Given as goal

abbrev pub invariant-loop-k : goal.invariant-loop-k
invariant-loop-k l =
    Pending l.self.layout.setup (block l.initial.samples l.initial.store l.initial.outcome) l.order (block l.samples l.store l.outcome) (drop l.k-index l.order)
