use Rattle.std.proofs.Common.{◌∙◌}
use Rattle.float.proofs.Finites.{finite_test}
use Rattle.float.proofs.finite.is_finite.Goals as goal

pub returns : goal.returns
returns g c =
    let f = g.F.Floating in
    let law = g.met.F.Floating in
    let bits = c.own_bits.ensures in
    rw (c.SIGN.ensures, c.INFINITY.ensures, law.sign_is, law.infinity_is) (finite_test f.format (f.value c.args.x) c.widen.result bits.fits (c.widen.ensures ∙ bits.bits))
