use Rattle.std.proofs.Common.{sym, ap, ◌∙◌, subst, ◌^◌, ◌≤◌, zero-add, arith, true, false, le-leb}
use Rattle.std.specs.Float.{binary32, binary64}
use borrow.Author.Tests.{lt-leb}
use denote.Floats.{passes}
use lib.Ieee.{of_bits, to_bits}
use Rattle.rounding.specs.Narrow.{narrow_of}
use Rattle.float.proofs.Nan.{is_nan_lem, not_nan}
use Rattle.rounding.proofs.Narrowing.{Bits, of_finite, of_infinite}
use Rattle.rounding.proofs.narrow.as_f32.Goals as goal
use Rattle.rounding.proofs.narrow.as_f32.Goals.{Joined-rest-lt9218868437227405312, then-rest-lt9218868437227405312, else-rest-lt9218868437227405312}

-- where the ways meet, the bits without the sign
joined : (c : Joined-rest-lt9218868437227405312) → Bits c.args.x c.if-rest-lt9218868437227405312.size × (c.if-rest-lt9218868437227405312.size ≤ 0x7f80_0000)
joined c =
    let x = c.args.x in
    elim c.if-rest-lt9218868437227405312.branch [
      | then-rest-lt9218868437227405312 w ↦ (
        subst (Bits x) (sym w.size-is) (of_finite x w.narrowed-size.result (passes _ c.well_formed.0.1) w.narrowed-size.ensures.0),
        omega (arith, w.size-is, w.narrowed-size.ensures.1),
      )
      | else-rest-lt9218868437227405312 w ↦ (
        subst (Bits x) (sym w.size-is) (of_infinite x (passes _ c.well_formed.0.1) (not_nan x c.if-x.false) w.if-rest-lt9218868437227405312.false),
        omega (arith, w.size-is),
      )
    ]

pub returns-then-x : goal.returns-then-x
unfolding narrow_of of_bits
returns-then-x c = ap (narrow_of binary32) (sym (is_nan_lem c.args.x c.if-x.true))

pub float_to_bits-b : goal.float_to_bits-b
float_to_bits-b c = not_nan c.args.x c.if-x.false

pub returns-then-b-lt9223372036854775808 : goal.returns-then-b-lt9223372036854775808
returns-then-b-lt9223372036854775808 c =
    let b = to_bits binary64 c.args.x in
    c.from_bits.ensures ∙ ap (of_bits binary32) (sym (zero-add c.if-rest-lt9218868437227405312.size)) ∙ (joined (goal.at.returns-then-b-lt9223372036854775808 c).Joined-rest-lt9218868437227405312).0 false (lt-leb (2 ^ 63) b c.if-b-lt9223372036854775808.true)

pub returns : goal.returns
returns c =
    let b = to_bits binary64 c.args.x in
    c.from_bits-2.ensures ∙ (joined (goal.at.returns c).Joined-rest-lt9218868437227405312).0 true (le-leb (2 ^ 63) b c.if-b-lt9223372036854775808.false)
