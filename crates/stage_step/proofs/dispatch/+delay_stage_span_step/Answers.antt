-- `dispatch::{delay_stage, span, step}`, which call one another, meet their contracts. In `step` each kind's promise is the definition at that kind. Assumes nothing.
use Rattle.std.proofs.Common.{◌≡◌, ℕ, min, length, sym, ap, ◌∙◌, arith, rules, set, w32, SFits}
use lib.Seq.{set_out}
use mir.ValLaws.{to_z-of_z}
use Rattle.decibels.specs.Amplitude.{amplitude_of}
use Rattle.line.specs.Held.{holds}
use Rattle.line.proofs.Lent.{home}
use Rattle.stage_step.specs.Step.{stage_step}
use Rattle.stage_step.proofs.Steps.{delay_lent, span_no_depth, span_none, span_lent, step_by}
use Rattle.stage_step.proofs.dispatch.+delay_stage_span_step.Goals as goal
use Rattle.stage_step.proofs.dispatch.+delay_stage_span_step.Goals.{delay_stage-in-Some, delay_stage-in_default, span-then-depth-eq0-via-then-depth-eq0, span-then-depth-eq0-via-else-depth-eq0+then-i-e}

-- the first position is the next
moved : (t : ℕ) (c : goal.delay_stage-After-mixed t) → c.match-first_mut.positions ≡ set (home c.min-p.result c.args.positions.now c.span-fed.new.positions) 0 c.next_position-next.result
moved t c = elim c.match-first_mut.branch [ delay_stage-in-Some w ↦ w.positions-is | delay_stage-in_default w ↦ w.positions-is ∙ sym (set_out (home c.min-p.result c.args.positions.now c.span-fed.new.positions) 0 _ (omega (arith, w.in_default.ensures.item.3))) ]

pub delay_stage-returns : goal.delay_stage-returns
delay_stage-returns t c n g =
    let a = c.args in
    let b = c.span-fed.new in
    delay_lent _ _ _ _ _ _ _ _ _ _ _ _ _ _ _ _ a.store.now a.positions.now a.floats.now _ _ (holds b.store b.positions b.floats)
    c.min-n.ensures c.min-p.ensures c.min-f.ensures c.span-fed.auto.positions c.number_at-at.ensures c.frame_at-oldest.ensures (c.span-fed.ensures n g)
    (c.amplitude.ensures ∙ ap amplitude_of (to_z-of_z w32 a.feedback c.ranges.feedback)) c.mul-wet.ensures c.add.ensures c.put_frame.ensures c.next_position-next.ensures (moved t c) c.mixed.ensures

pub span-returns-then-depth-eq0 : goal.span-returns-then-depth-eq0
span-returns-then-depth-eq0 t c n g =
    elim c.then-depth-eq0.branch [
      | span-then-depth-eq0-via-then-depth-eq0 w ↦ span_no_depth _ _ _ _ _ _ w.if-depth-eq0.true n g
      | span-then-depth-eq0-via-else-depth-eq0+then-i-e w ↦ span_none _ _ _ _ _ _ w.if-i-e.true n g
    ]

pub span-returns : goal.span-returns
span-returns t c =
    let s = c.args in
    let a = c.step-y.new in
    let b = c.span.new in
    span_lent _ _ _ _ _ _ _ _ _ _ _ _ s.store.now s.positions.now s.floats.now (holds a.store a.positions a.floats) (holds b.store b.positions b.floats)
    c.next_place-next.ensures.0 (omega (arith, c.if-i-e.false)) (c.next_place-next.ensures.2 (omega arith)) c.next_place-next.ensures.1 c.if-depth-eq0.false
    (c.min-n.ensures ∙ ap (λ m. min m (length s.store.now)) c.size_between.ensures) c.min-p.ensures c.min-f.ensures
    c.step-y.auto.store c.step-y.auto.positions c.step-y.auto.floats c.step-y.ensures c.span.ensures

pub step-returns-in-VolumeControl : goal.step-returns-in-VolumeControl
unfolding stage_step
step-returns-in-VolumeControl t c =
    let fits : SFits w32 c.in-VolumeControl.volume = search rules in
    step_by _ _ _ _ _ _ _ _ c.in-VolumeControl.is (λ n g. rw (c.process.ensures, to_z-of_z w32 c.in-VolumeControl.volume fits))

pub step-returns-in-PanningControl : goal.step-returns-in-PanningControl
unfolding stage_step
step-returns-in-PanningControl t c = step_by _ _ _ _ _ _ _ _ c.in-PanningControl.is (λ n g. rw c.process-in-PanningControl.ensures)

pub step-returns-in-Distortion : goal.step-returns-in-Distortion
unfolding stage_step
step-returns-in-Distortion t c =
    let fits : SFits w32 c.in-Distortion.drive = search rules in
    step_by _ _ _ _ _ _ _ _ c.in-Distortion.is (λ n g. rw (c.process-in-Distortion.ensures, to_z-of_z w32 c.in-Distortion.drive fits))

pub step-returns-in-Filter : goal.step-returns-in-Filter
unfolding stage_step
step-returns-in-Filter t c = step_by _ _ _ _ _ _ _ _ c.in-Filter.is (λ n g. rw (c.keep.ensures.0, c.keep.ensures.1, c.process-in-Filter.ensures, c.recall.ensures))

pub step-returns-in-EqFilter : goal.step-returns-in-EqFilter
unfolding stage_step
step-returns-in-EqFilter t c =
    let fits : SFits w32 c.in-EqFilter.gain = search rules in
    step_by _ _ _ _ _ _ _ _ c.in-EqFilter.is (λ n g. rw (c.keep-in-EqFilter.ensures.0, c.keep-in-EqFilter.ensures.1, c.process-in-EqFilter.ensures, c.recall-in-EqFilter.ensures, to_z-of_z w32 c.in-EqFilter.gain fits))

pub step-returns-in-Reverb : goal.step-returns-in-Reverb
unfolding stage_step
step-returns-in-Reverb t c = step_by _ _ _ _ _ _ _ _ c.in-Reverb.is (λ n g. rw c.process-in-Reverb.ensures)

pub step-returns-in-Delay : goal.step-returns-in-Delay
unfolding stage_step
step-returns-in-Delay t c =
    let fits : SFits w32 c.in-Delay.feedback = search rules in
    step_by _ _ _ _ _ _ _ _ c.in-Delay.is (λ n g. rw (← to_z-of_z w32 c.in-Delay.feedback fits) (c.delay_stage.ensures n g))
