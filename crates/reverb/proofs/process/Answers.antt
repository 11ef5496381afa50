-- `process` meets its contract: the left side has the fronts, the right side the rests. Assumes nothing.
use Rattle.std.proofs.Common.{◌≡◌, ℕ, ◌+◌, ◌-◌, ◌≤◌, List, ◌++◌, length, take, drop, arith, ◌∙◌, length-take-le, Float}
use lib.Ieee.{of_bits, round}
use Rattle.std.specs.List.{sum}
use Rattle.std.proofs.lemmas.List.Sums.{sum_by-take-drop}
use Rattle.float.specs.Literal.{literal}
use Rattle.line.specs.Held.{holds}
use Rattle.line.proofs.Lent.{lent_length}
use Rattle.reverb_tuning.specs.Tuning.{reverb_lines, reverb_floats}
use Rattle.reverb_tuning.proofs.Tunings.{floats_are}
use Rattle.reverb.proofs.Sides.{whole, no_store, no_positions, no_floats, both_sides}
use Rattle.reverb.proofs.process.Goals as goal
use Rattle.reverb.proofs.process.Goals.{then-store-needed-via-then-store-needed, then-store-needed-via-else-store-needed+then-positions-lt-LINES, then-store-needed-via-else-store-needed+else-positions-lt-LINES+then-floats-lt-COMBS}

-- what the left side has, and that there is room for both sides
left_has : (rate needed rest : ℕ) → needed ≡ reverb_floats rate → rest ≡ sum (drop 12 (reverb_lines rate)) → needed - rest ≡ sum (take 12 (reverb_lines rate))
left_has rate needed rest n r = omega (arith, n, r, floats_are rate, sum_by-take-drop (λ n. n) (reverb_lines rate) 12)

room : (rate needed : ℕ) (store : List Float) → needed ≡ reverb_floats rate → needed ≤ length store → sum (take 12 (reverb_lines rate)) + sum (drop 12 (reverb_lines rate)) ≤ length store
room rate needed store n h = omega (arith, n, h, floats_are rate, sum_by-take-drop (λ n. n) (reverb_lines rate) 12)

pub returns-then-store-needed : goal.returns-then-store-needed
returns-then-store-needed c =
    let n = c.reverb_floats-needed.ensures in
    elim c.then-store-needed.branch [
      | then-store-needed-via-then-store-needed w ↦ no_store _ _ _ _ _ _ (omega (arith, n, w.if-store-needed.true))
      | then-store-needed-via-else-store-needed+then-positions-lt-LINES w ↦ no_positions _ _ _ _ _ _ (omega (arith, n, w.if-store-needed.false)) w.if-positions-lt-LINES.true
      | then-store-needed-via-else-store-needed+else-positions-lt-LINES+then-floats-lt-COMBS w ↦
          no_floats _ _ _ _ _ _ (omega (arith, n, w.if-store-needed.false)) (omega (arith, w.if-positions-lt-LINES.false)) w.if-floats-lt-COMBS.true
    ]

pub overflow_sub-n : goal.overflow_sub-n
overflow_sub-n c = omega (arith, c.reverb_floats-needed.ensures, c.floats_from.ensures, floats_are c.args.rate, sum_by-take-drop (λ n. n) (reverb_lines c.args.rate) 12)

pub side-left-requires : goal.side-left-requires
side-left-requires c =
    let a = c.args in
    let n = c.reverb_floats-needed.result - c.floats_from.result in
    let h = left_has a.rate _ _ c.reverb_floats-needed.ensures c.floats_from.ensures in
    let r = room a.rate _ a.store.now c.reverb_floats-needed.ensures c.if-store-needed.false in (
      omega arith,
      omega (arith, h, r, length-take-le n a.store.now (omega (arith, h, r))),
      omega (arith, length-take-le 12 a.positions.now (omega (arith, c.if-positions-lt-LINES.false))),
      omega (arith, length-take-le 8 a.floats.now (omega (arith, c.if-floats-lt-COMBS.false))),
    )

pub side-right-requires : goal.side-right-requires
unfolding reverb_lines
side-right-requires c =
    let a = c.args in
    let n = c.reverb_floats-needed.result - c.floats_from.result in
    let h = left_has a.rate _ _ c.reverb_floats-needed.ensures c.floats_from.ensures in
    let r = room a.rate _ a.store.now c.reverb_floats-needed.ensures c.if-store-needed.false in
    let l = c.side-left.new in
    let s = c.side-left.auto in (
      omega arith,
      omega (arith, h, r, whole n l.store a.store.now (omega (arith, h, r)) s.store, lent_length n (l.store ++ drop n a.store.now)),
      omega (arith, c.if-positions-lt-LINES.false, whole 12 l.positions a.positions.now (omega (arith, c.if-positions-lt-LINES.false)) s.positions, lent_length 12 (l.positions ++ drop 12 a.positions.now)),
      omega (arith, c.if-floats-lt-COMBS.false, whole 8 l.floats a.floats.now (omega (arith, c.if-floats-lt-COMBS.false)) s.floats, lent_length 8 (l.floats ++ drop 8 a.floats.now)),
    )

pub returns : goal.returns
unfolding reverb_lines literal round of_bits
returns c =
    let a = c.args in
    let n = c.reverb_floats-needed.result - c.floats_from.result in
    let h = left_has a.rate _ _ c.reverb_floats-needed.ensures c.floats_from.ensures in
    let room = room a.rate _ a.store.now c.reverb_floats-needed.ensures c.if-store-needed.false in
    let l = c.side-left.new in
    let s = c.side-left.auto in
    let r = c.side-right.new in
    both_sides _ _ _ _ _ _ _ _ a.store.now a.positions.now a.floats.now _ _ (holds l.store l.positions l.floats) (holds r.store r.positions r.floats)
    (omega (arith, c.reverb_floats-needed.ensures, c.if-store-needed.false))
    (omega (arith, c.if-positions-lt-LINES.false))
    (omega (arith, c.if-floats-lt-COMBS.false))
    h
    (s.store ∙ length-take-le n a.store.now (omega (arith, h, room)))
    (s.positions ∙ length-take-le 12 a.positions.now (omega (arith, c.if-positions-lt-LINES.false)))
    (s.floats ∙ length-take-le 8 a.floats.now (omega (arith, c.if-floats-lt-COMBS.false)))
    c.side-left.ensures
    c.side-right.ensures
    (rw (c.mixed.ensures, c.widened.ensures))
