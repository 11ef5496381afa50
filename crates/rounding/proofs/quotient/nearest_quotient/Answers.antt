-- `quotient::nearest_quotient` meets its contract, by the laws of proofs/Quotients.antt. Assumes nothing.
use Rattle.std.proofs.Common.{mod-lt, arith}
use Rattle.rounding.proofs.Quotients.{no_quotient, rounds_down, rounds_up, rounds_even}
use Rattle.rounding.proofs.quotient.nearest_quotient.Goals as goal

pub returns-then-b-eq0 : goal.returns-then-b-eq0
returns-then-b-eq0 c = no_quotient c.args.a c.args.b c.if-b-eq0.true

pub returns-then-rest-gap : goal.returns-then-rest-gap
returns-then-rest-gap c =
    let a = c.args in
    let m = mod-lt a.a {m = a.b} (omega arith) in
    rounds_down a.a a.b (omega arith) (omega arith)

pub returns-then-gap-rest : goal.returns-then-gap-rest
returns-then-gap-rest c =
    let a = c.args in
    let m = mod-lt a.a {m = a.b} (omega arith) in
    rounds_up a.a a.b (omega arith) (omega arith)

pub returns : goal.returns
returns c =
    let a = c.args in
    let m = mod-lt a.a {m = a.b} (omega arith) in
    rounds_even a.a a.b (omega arith) (omega arith)
