-- All that is lent to `fill` is cleared, and the rest stays. Assumes nothing.
use Rattle.std.proofs.Common.{ap, sym, ◌∙◌, ◌++◌, drop, replicate, length-take-le}
use Rattle.std.specs.Float.{binary32}
use Rattle.std.specs.Float.Ieee.{of_bits}
use Rattle.fresh_start.proofs.Cleared.{cleared_zero}
use Rattle.fresh_start.proofs.start.clear.Goals as goal

pub returns : goal.returns
returns c =
    let n = c.args.n in
    let filled = c.fill.ensures.after (λ y same. same) ∙ ap (λ m. replicate m (of_bits binary32 0)) (length-take-le n c.args.store.now c.requires) in
    ap (λ part. part ++ drop n c.args.store.now) filled ∙ sym (cleared_zero n c.args.store.now)
