use Rattle.std.proofs.Common.{◌*◌, ◌/◌, ◌^◌, arith}
use Rattle.rounding.proofs.WholeRoot.{nearest_up, nearest_down}
use Rattle.rounding.proofs.sqrt.nearest_root.Goals as goal

pub returns-then-digits-rest : goal.returns-then-digits-rest
returns-then-digits-rest c =
    let a = c.args in
    let f = c.whole_root-digits in
    (nearest_up (a.w * 4 ^ a.n / 2 ^ 64) f.result.digits f.result.rest f.ensures.whole f.ensures.small c.if-digits-rest.true, omega (arith, f.ensures.short))

pub returns-else-digits-rest : goal.returns-else-digits-rest
returns-else-digits-rest c =
    let a = c.args in
    let f = c.whole_root-digits in
    (nearest_down (a.w * 4 ^ a.n / 2 ^ 64) f.result.digits f.result.rest f.ensures.whole f.ensures.small c.if-digits-rest.false, omega (arith, f.ensures.short))
