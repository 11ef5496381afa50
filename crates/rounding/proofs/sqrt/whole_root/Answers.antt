use Rattle.std.proofs.Common.{◌<◌, ◌+◌, ◌*◌, ◌%◌, ◌^◌, arith}
use Rattle.rounding.proofs.RootDigit.{bound, digit_one, digit_nought, moved}
use Rattle.rounding.proofs.sqrt.whole_root.Goals as goal
use Rattle.rounding.proofs.sqrt.whole_root.Goals.{In-loop-i, then-trial-next, else-trial-next}

-- in a turn the root is short
short : (c : In-loop-i) → c.loop-i.root < 2 ^ 53
short c = let l = c.loop-i in bound l._i c.args.n l.root l.invariant.0 l.invariant.1 l.invariant.2.2

pub overflow_mul-next : goal.overflow_mul-next
overflow_mul-next c = omega (arith, short (goal.at.overflow_mul-next c).In-loop-i)

pub overflow_add-next : goal.overflow_add-next
overflow_add-next c = omega (arith, short (goal.at.overflow_add-next c).In-loop-i)

pub overflow_mul-trial : goal.overflow_mul-trial
overflow_mul-trial c = omega (arith, short (goal.at.overflow_mul-trial c).In-loop-i)

pub overflow_add-trial : goal.overflow_add-trial
overflow_add-trial c = omega (arith, short (goal.at.overflow_add-trial c).In-loop-i)

pub loop-i-preserved : goal.loop-i-preserved
loop-i-preserved c =
    let l = c.loop-i in
    let w = c.args.w in (
      omega arith,
      l.invariant.1,
      elim c.if-trial-next.branch [
        | then-trial-next a ↦ moved w (l._i + 1) (l.word % 2 ^ 62 * 4) a.root-is a.rest-is (digit_one w l._i l.root l.rest l.word l.invariant.2 a.if-trial-next.true)
        | else-trial-next a ↦ moved w (l._i + 1) (l.word % 2 ^ 62 * 4) a.root-is a.rest-is (digit_nought w l._i l.root l.rest l.word l.invariant.2 a.if-trial-next.false)
      ],
    )
