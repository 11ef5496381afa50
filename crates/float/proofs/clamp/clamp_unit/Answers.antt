use Rattle.float.specs.Clamp.{unit_of}
use Rattle.float.proofs.clamp.clamp_unit.Goals as goal

pub returns : goal.returns
unfolding unit_of
returns g c =
    let f = g.F.Floating in
    let law = g.met.F.Floating in
    rw (c.ZERO.ensures, c.ONE.ensures, law.zero_is, law.one_is) at c.clamp.ensures
