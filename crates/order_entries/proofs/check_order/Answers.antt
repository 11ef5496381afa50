-- `check_order` meets its contract. The loop's invariant: so many entries are read and counted, and none of them is stuck (proofs/Counting.antt). The measure is what is unread. Assumes nothing.
use Rattle.std.proofs.Common.{◌≡◌, ap, sym, ◌∙◌, arith, ◌≤◌, length, length-set}
use lib.Seq.{set_out}
use Rattle.order_entries.specs.Entries.{rule_number, rule_of}
use Rattle.order_entries.proofs.Counting.{kept_room, count_start, count_found, count_on, count_over}
use Rattle.order_entries.proofs.check_order.Goals as goal
use Rattle.order_entries.proofs.check_order.Goals.{Else-number-ne0}

-- the entry breaks no rule
kept : (c : Else-number-ne0) → rule_number (rule_of c.args.tops c.args.frames c.loop-k.counted c.in-Some.field-0-0.now) ≡ 0
kept c = sym (c.number.ensures ∙ ap rule_number c.may_run.ensures) ∙ c.if-number-ne0.false

pub loop-k-init : goal.loop-k-init
loop-k-init c = (omega arith, count_start _ _ _ _)

pub returns-then-number-ne0 : goal.returns-then-number-ne0
returns-then-number-ne0 c = count_found _ _ _ _ c.in-Some.ensures.cases.0 c.loop-k.invariant.1 (λ e. c.if-number-ne0.true (c.number.ensures ∙ ap rule_number c.may_run.ensures ∙ e))

pub overflow_add-counted : goal.overflow_add-counted
overflow_add-counted c = omega (arith, c.ranges.frames, kept_room c.args.tops c.args.frames _ _ (kept (goal.at.overflow_add-counted c).Else-number-ne0))

pub loop-k-preserved-then-k-lt-PLACES : goal.loop-k-preserved-then-k-lt-PLACES
loop-k-preserved-then-k-lt-PLACES c =
    let l = c.loop-k in
    (simp length-set l.invariant.0, count_on _ _ _ _ c.in-Some.ensures.cases.0 l.invariant.1 (kept (goal.at.loop-k-preserved-then-k-lt-PLACES c).Else-number-ne0))

pub loop-k-preserved : goal.loop-k-preserved
loop-k-preserved c =
    let l = c.loop-k in
    let past : length l.counted ≤ c.in-Some.field-0-0.now = omega arith in
    (l.invariant.0, rw set_out at (count_on _ _ _ _ c.in-Some.ensures.cases.0 l.invariant.1 (kept (goal.at.loop-k-preserved c).Else-number-ne0)))

pub returns : goal.returns
returns c = count_over _ _ _ _ c.loop-k.invariant.1 c.in_default.ensures.cases
