use Rattle.std.proofs.Common.{ap, ◌∙◌, inl, inr, arith}
use lib.Ieee.{of_bits}
use Rattle.rounding.proofs.RootLaw.{Found, found}
use Rattle.rounding.proofs.sqrt.root_bits.Given.{Over}
use Rattle.rounding.proofs.sqrt.root_bits.Goals as goal
use Rattle.rounding.proofs.sqrt.root_bits.Goals.{Joined-field-eq0, then-field-eq0, else-field-eq0}

-- where the ways meet, the digits and the places are those of the root
joined : (g : Over) (c : Joined-field-eq0 g) → Found g.F.Floating.format c.args.b c.if-field-eq0.root.digits c.if-field-eq0.root.places
joined g c =
    let law = g.met.F.Floating in
    found g.F.Floating.format c.args.b c.if-field-eq0.root.digits c.if-field-eq0.root.places c.requires.positive (rw law.infinity_is at c.requires.finite)
    (
    elim c.if-field-eq0.branch [
      | then-field-eq0 w ↦ inl (
        rw (c.HIDDEN.ensures, law.hidden_is) at w.if-field-eq0.true,
        rw w.root-is (rw (c.HIDDEN-2.ensures, w.PLACES.ensures, w.DIGITS.ensures, law.hidden_is, law.places_is, law.digits_is) at w.scaled_root-root.ensures),
      )
      | else-field-eq0 w ↦ inr (
        rw (c.HIDDEN.ensures, law.hidden_is) at w.if-field-eq0.false,
        rw w.root-is (rw (c.HIDDEN.ensures, c.HIDDEN-2.ensures, w.HIDDEN-else-field-eq0.ensures, w.PLACES-else-field-eq0.ensures, w.DIGITS-else-field-eq0.ensures, law.hidden_is, law.places_is, law.digits_is) at w.scaled_root-root-else-field-eq0.ensures),
      )
    ]
    )

pub returns : goal.returns
returns g c =
    let law = g.met.F.Floating in
    let least = rw (c.HIDDEN-3.ensures, c.INFINITY.ensures, law.hidden_is, law.infinity_is) at c.min.ensures in
    (ap (of_bits g.F.Floating.format) least ∙ (joined g (goal.at.returns g c).Joined-field-eq0).0, omega (arith, c.min.ensures, c.INFINITY.ensures))
