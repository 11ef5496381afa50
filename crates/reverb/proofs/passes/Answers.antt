-- `passes` meets its contract: each turn of the loop runs one all-pass on its own part of the stretches. Assumes nothing.
use Rattle.std.proofs.Common.{◌<◌, refl, sym, ap, ◌∙◌, arith}
use Rattle.line.specs.Held.{holds}
use Rattle.reverb.specs.Reverb.{heard, pass_of}
use Rattle.reverb.proofs.InTurn.{still_all, still_none, parted, some, some_length, some_more, some_at, some_reach, some_fit, still_pass}
use Rattle.reverb.proofs.passes.Goals as goal

pub loop-k-init : goal.loop-k-init
loop-k-init c = (refl, λ floats. still_all _ _ _ _ _ _)

pub slice_bounds-process-end : goal.slice_bounds-process-end
slice_bounds-process-end c =
    let a = c.args in
    let l = c.loop-k in
    omega (arith, some_fit a.rate a.first 4 c.requires.0 l.k l.start _ (omega arith) l.invariant.0 c.reverb_line.ensures, c.requires.1, l.auto.store)

pub loop-k-preserved : goal.loop-k-preserved
loop-k-preserved c =
    let a = c.args in
    let l = c.loop-k in
    let n = c.reverb_line.result in
    let p = c.process-passed in
    let few = c.requires.0 in
    let more : l.k < 4 = omega arith in
    let fit = some_fit a.rate a.first 4 few l.k l.start n more l.invariant.0 c.reverb_line.ensures in (
      some_reach a.rate a.first 4 few l.k l.start n more l.invariant.0 c.reverb_line.ensures,
      λ floats.
          l.invariant.1 floats
          ∙ still_pass l.start l.k n l.output p.new.line l.store l.positions floats heard (some a.rate a.first 4 few)
          (some_more a.rate a.first 4 few l.k l.start n more l.invariant.0 c.reverb_line.ensures)
          (some_at a.rate a.first 4 few l.k l.start n more l.invariant.0 c.reverb_line.ensures)
          (omega (arith, fit, c.requires.1, l.auto.store)) (omega (arith, l.auto.positions, c.requires.2)) _ (omega arith) p.auto.line p.result p.ensures,
    )

pub returns : goal.returns
returns c floats =
    let a = c.args in
    let l = c.loop-k in
    sym
    (l.invariant.1 floats
    ∙ still_none 0 pass_of heard (some a.rate a.first 4 c.requires.0) l.k l.start 0 l.output (holds l.store l.positions floats) (omega (arith, some_length a.rate a.first 4 c.requires.0))
    ∙ ap (heard l.output) (parted l.start l.k 0 (holds l.store l.positions floats)))
