-- `Layout::of` meets its contract: where all starts stand, they are the list of them. Assumes nothing.
use Rattle.std.proofs.Common.{◌∙◌, ◌+◌, arith}
use Rattle.memories.specs.Sizes.{places}
use Rattle.line_layout.specs.Layout.{start_of}
use Rattle.stage.proofs.Listed.{listed_all}
use Rattle.line_layout.proofs.LineStarts.{starts_are}
use Rattle.line_layout.proofs.layout.Layout.of.Goals as goal

pub returns-clause-starts : goal.returns-clause-starts
returns-clause-starts c =
    let setup = c.args.setup in
    let at = c.loop-i in
    listed_all (start_of setup) 0 at.starts (places + 1) at.invariant.full (λ k h. at.invariant.stand k (omega arith)) ∙ starts_are setup
