-- The measures of the three that call one another: a span is above its first step, a step above its delay, and a delay above the span of its own stages, which begins one place later. Assumes nothing.
use Rattle.std.proofs.Common.{◌+◌, ◌*◌, ◌-◌}
use Rattle.stage_step.proofs.dispatch.+delay_stage_span_step.Given as goal

abbrev pub decreases-delay_stage : goal.decreases-delay_stage
decreases-delay_stage l = 3 * (l.e - l.i)

abbrev pub decreases-step : goal.decreases-step
decreases-step l = 3 * (l.e - l.i) + 1

abbrev pub decreases-span : goal.decreases-span
decreases-span l = 3 * (l.e - l.i) + 2
