-- `side` meets its contract: each turn of the loop runs one comb on its own part of the stretches; what follows is the all-passes'. Assumes nothing.
use Rattle.std.proofs.Common.{◌≡◌, ◌+◌, ◌-◌, ◌<◌, ◌≤◌, refl, sym, ◌∙◌, drop, arith}
use lib.Ieee.{of_bits, round}
use Rattle.float.specs.Literal.{literal}
use Rattle.line.specs.Held.{holds}
use Rattle.line.proofs.Lent.{lent_length}
use borrow.Rule.Slice.PartMut.{same_len_mid}
use lib.Seq.{slice}
use Rattle.std.proofs.lemmas.List.Sums.{sum_by-take-le}
use Rattle.reverb_tuning.specs.Tuning.{line_count, reverb_lines}
use Rattle.reverb.specs.Reverb.{heard, comb_of, pass_of, lines_in_turn}
use Rattle.reverb.proofs.InTurn.{still_all, still_none, some, some_length, some_more, some_at, some_reach, some_fit, still_comb}
use Rattle.reverb.proofs.Sides.{side_floats, side_lines_are, side_done}
use Rattle.reverb.proofs.side.Goals as goal

pub loop-k-init : goal.loop-k-init
loop-k-init c = let a = c.args in (omega (arith, side_floats a.rate a.first, c.requires.1), refl, still_all _ _ _ _ _ _)

pub slice_bounds-process-end : goal.slice_bounds-process-end
slice_bounds-process-end c =
    let a = c.args in
    let l = c.loop-k in
    omega (arith, some_fit a.rate a.first 8 (omega (arith, c.requires.0)) l.k l.start _ (omega arith) l.invariant.1 c.reverb_line.ensures, l.invariant.0)

pub loop-k-preserved : goal.loop-k-preserved
loop-k-preserved c =
    let a = c.args in
    let l = c.loop-k in
    let n = c.reverb_line.result in
    let p = c.process-combed in
    let few : a.first + 8 ≤ line_count = omega (arith, c.requires.0) in
    let more : l.k < 8 = omega arith in
    let fit = some_fit a.rate a.first 8 few l.k l.start n more l.invariant.1 c.reverb_line.ensures in (
      omega (arith, l.invariant.0, same_len_mid l.start (l.start + n - l.start) l.store p.new.line p.auto.line),
      some_reach a.rate a.first 8 few l.k l.start n more l.invariant.1 c.reverb_line.ensures,
      l.invariant.2
          ∙ still_comb l.start l.k n l.sum p.new.line l.store l.positions l.floats (lines_in_turn 0 pass_of heard (some a.rate (a.first + 8) 4 (omega (arith, c.requires.0)))) (some a.rate a.first 8 few)
          (some_more a.rate a.first 8 few l.k l.start n more l.invariant.1 c.reverb_line.ensures)
          (some_at a.rate a.first 8 few l.k l.start n more l.invariant.1 c.reverb_line.ensures)
          (omega (arith, fit, l.invariant.0)) (omega (arith, l.auto.positions, c.requires.2)) _ (omega arith) p.auto.line a.feedback a.damping a.input p.result (omega (arith, l.auto.floats, c.requires.3)) p.ensures,
    )

pub passes-requires : goal.passes-requires
passes-requires c =
    let a = c.args in
    let l = c.loop-k in (
      omega (arith, c.requires.0),
      omega (arith, l.invariant.0, l.invariant.1, sum_by-take-le (λ n. n) (slice a.first (a.first + 8) (reverb_lines a.rate)) l.k, lent_length l.start l.store),
      omega (arith, l.auto.positions, c.requires.2, lent_length 8 l.positions),
    )

pub returns : goal.returns
unfolding literal round of_bits
returns c =
    let a = c.args in
    let l = c.loop-k in
    let p = c.passes in
    let few : a.first + 8 ≤ line_count = omega (arith, c.requires.0) in
    let step = comb_of a.feedback a.damping a.input in
    let next = lines_in_turn 0 pass_of heard (some a.rate (a.first + 8) 4 (omega (arith, c.requires.0))) in
    let k-is : l.k ≡ 8 = omega arith in
    side_done next l.start l.sum p.result l.store l.positions l.floats p.new.store p.new.positions (p.ensures (drop 8 l.floats))
    ∙ sym (rw k-is at l.invariant.2 ∙ still_none 1 step next (some a.rate a.first 8 few) 8 l.start 8 l.sum (holds l.store l.positions l.floats) (omega (arith, some_length a.rate a.first 8 few)))
    ∙ sym (side_lines_are a.rate a.first a.feedback a.damping a.input (holds a.store.now a.positions.now a.floats.now))
