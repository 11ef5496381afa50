-- Stage after stage is run to the last frame: at each turn the stages from k on are what is left of the order. Assumes nothing.
use Rattle.std.proofs.Common.{◌≡◌, arith}
use Rattle.top_stages.specs.Tops.{tops_of}
use Rattle.top_stages.proofs.TopStages.{tops_found}
use Rattle.chain.proofs.Turns.{finish_first, finish_orderly, finish_next, finish_last}
use Rattle.chain.proofs.plan.Plan.finish.Goals as goal
use Rattle.chain.proofs.plan.Plan.finish.Goals.{Start}

-- the plan counts the top stages
counted : (c : Start) → c.args.self.now.tops.n ≡ tops_of c.args.self.now.layout.setup
counted c = tops_found c.args.self.now.layout.setup c.args.self.now.tops_are

pub loop-k-init : goal.loop-k-init
loop-k-init c = finish_first c.requires.ready

pub advance_to_end-requires-clause-k_bound : goal.advance_to_end-requires-clause-k_bound
advance_to_end-requires-clause-k_bound c = omega (arith, c.loop-k-test.true, counted (goal.at.advance_to_end-requires-clause-k_bound c).Start)

pub advance_to_end-requires-clause-orderly : goal.advance_to_end-requires-clause-orderly
advance_to_end-requires-clause-orderly c = finish_orderly c.loop-k.invariant (omega (arith, c.loop-k-test.true, counted (goal.at.advance_to_end-requires-clause-orderly c).Start))

pub loop-k-preserved : goal.loop-k-preserved
loop-k-preserved c = finish_next c.loop-k.invariant (omega (arith, c.loop-k-test.true, counted (goal.at.loop-k-preserved c).Start)) c.advance_to_end.ensures

pub returns : goal.returns
returns c = finish_last c.loop-k.invariant (omega (arith, c.loop-k-test.false, counted (goal.at.returns c).Start))
