-- `sample::steps` meets its contract: a law of proofs/Steps.antt for each arm. Assumes nothing.
use Rattle.std.proofs.Common.{◌∙◌, ◌+◌, ◌-◌, ◌^◌, zero-le, arith, lit≤}
use Rattle.rounding.proofs.Quotients.{quotient_shl}
use Rattle.wav_samples.proofs.Steps.{nan_steps, inf_steps, large_steps, small_steps, middle_steps}
use Rattle.wav_samples.proofs.sample.steps.Goals as goal

pub returns-in-0-to-110 : goal.returns-in-0-to-110
returns-in-0-to-110 c = (small_steps c.args.field c.args.digits (omega arith) (omega arith), zero-le)

pub returns-in-111-to-126 : goal.returns-in-111-to-126
returns-in-111-to-126 c =
    let x = c.args.field in
    let t = c.args.digits in
    middle_steps x t c.nearest_quotient.result (omega arith) (omega arith) (omega arith) (c.nearest_quotient.ensures ∙ quotient_shl (2 ^ 23 + t) (135 - x) (omega arith))

pub returns-in-127-to-254 : goal.returns-in-127-to-254
returns-in-127-to-254 c = (large_steps c.args.field c.args.digits (λ e. omega arith) (omega arith) (omega arith), lit≤ tt)

pub returns-then-digits-gt0 : goal.returns-then-digits-gt0
returns-then-digits-gt0 c = (nan_steps c.args.field c.args.digits (omega arith) c.if-digits-gt0.true, zero-le)

pub returns-else-digits-gt0 : goal.returns-else-digits-gt0
returns-else-digits-gt0 c = (inf_steps c.args.field c.args.digits (omega arith) c.if-digits-gt0.false, lit≤ tt)
