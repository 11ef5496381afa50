use Rattle.std.proofs.Common.{sym, ◌∙◌, subst, ◌+◌, ◌-◌, ◌^◌, zero-le, arith}
use Rattle.rounding.proofs.Narrowing.{Narrowed, fields_tiny, fields_subnormal, fields_normal}
use Rattle.rounding.proofs.Quotients.{quotient_shl, quotient_pow}
use Rattle.rounding.proofs.narrow.narrowed.Goals as goal

pub returns-then-field-lt873 : goal.returns-then-field-lt873
returns-then-field-lt873 c = (fields_tiny c.args.field c.args.digits c.if-field-lt873.true c.requires.digits_small, zero-le)

pub returns-then-field-lt897 : goal.returns-then-field-lt897
returns-then-field-lt897 c =
    let a = c.args in
    let t = fields_subnormal a.field a.digits c.nearest_quotient.result (omega arith) (omega arith) (omega arith)
    (c.nearest_quotient.ensures ∙ quotient_shl (2 ^ 52 + a.digits) (926 - a.field) (omega arith)) in
    (t.0, omega (arith, t.1))

pub overflow_add-field : goal.overflow_add-field
overflow_add-field c =
    let a = c.args in
    let t = fields_normal a.field a.digits c.nearest_quotient-2.result (omega arith) (omega arith) (omega arith) (c.nearest_quotient-2.ensures ∙ quotient_pow (2 ^ 52 + a.digits) 29) in
    omega (arith, t.1)

pub returns : goal.returns
returns c =
    let a = c.args in
    let t = fields_normal a.field a.digits c.nearest_quotient-2.result (omega arith) (omega arith) (omega arith) (c.nearest_quotient-2.ensures ∙ quotient_pow (2 ^ 52 + a.digits) 29) in
    (subst (Narrowed a.field a.digits) (sym c.min.ensures) t.0, omega (arith, c.min.ensures))
