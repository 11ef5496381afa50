use Rattle.std.proofs.Common.{◌≡◌, ◌∙◌, sym}
use denote.Floats.{passes}
use lib.Ieee.{of_bits, lt, eq}
use lib.Ieee.Bits.{of_bits-to_bits}
use Rattle.float.proofs.Order.{less_by, zero_literal}
use Rattle.float.proofs.Patterns.{kept_whole}
use Rattle.rounding.proofs.Roots.{above_bits, root_of_inf, root_of_zero, root_of_negative}
use Rattle.rounding.proofs.sqrt.sqrt.Given.{Over}
use Rattle.rounding.proofs.sqrt.sqrt.Goals as goal
use Rattle.rounding.proofs.sqrt.sqrt.Goals.{After-lt, After-eq, After-widen-b}

-- what the two comparisons say of the value
above : (g : Over) (c : After-lt g) → c.lt.result ≡ lt (of_bits g.F.Floating.format 0) (g.F.Floating.value c.args.x)
above g c =
    let law = g.met.F.Floating in
    let same : c.lt.result ≡ lt (g.F.Floating.value c.ZERO.result) (g.F.Floating.value c.args.x) = less_by _ _ c.lt.ensures (law.order c.ZERO.result c.args.x) in
    rw (c.ZERO.ensures, law.zero_is, zero_literal g.F.Floating.format) at same

equal : (g : Over) (c : After-eq g) → c.eq.result ≡ eq (g.F.Floating.value c.args.x) (of_bits g.F.Floating.format 0)
equal g c =
    let law = g.met.F.Floating in
    rw (law.equal c.args.x c.ZERO-2.result, c.ZERO-2.ensures, law.zero_is, zero_literal g.F.Floating.format) at c.eq.ensures

pub root_bits-requires-clause-positive : goal.root_bits-requires-clause-positive
root_bits-requires-clause-positive g c =
    let x = g.F.Floating.value c.args.x in
    rw (c.widen-b.ensures, c.own_bits.ensures.bits) (above_bits g.F.Floating.format x (passes _ c.own_bits.ensures.fits) (sym (above g (goal.at.root_bits-requires-clause-positive g c).After-lt) ∙ c.if-lt.true))

pub returns-then-b-INFINITY : goal.returns-then-b-INFINITY
returns-then-b-INFINITY g c =
    let f = g.F.Floating.format in
    let law = g.met.F.Floating in
    let bits = c.own_bits.ensures in
    let kept = kept_whole f c.root_bits.result (rw law.infinity_is at c.root_bits.ensures.1) in
    let whole = of_bits-to_bits f (g.F.Floating.value c.args.x) (passes _ bits.fits) in
    rw (c.from_own_bits.ensures, c.narrow.ensures, kept, c.root_bits.ensures.0, c.widen-b.ensures, bits.bits, whole)

pub returns-then-lt : goal.returns-then-lt
returns-then-lt g c =
    let law = g.met.F.Floating in
    let bits = c.own_bits.ensures in
    let high = rw (c.INFINITY.ensures, c.widen-b.ensures, bits.bits, law.infinity_is) at c.if-b-INFINITY.false in
    root_of_inf g.F.Floating.format (g.F.Floating.value c.args.x) (passes _ bits.fits) (sym (above g (goal.at.returns-then-lt g c).After-lt) ∙ c.if-lt.true) high

pub returns-then-eq : goal.returns-then-eq
returns-then-eq g c = root_of_zero g.F.Floating.format (g.F.Floating.value c.args.x) (sym (equal g (goal.at.returns-then-eq g c).After-eq) ∙ c.if-eq.true)

pub returns : goal.returns
returns g c =
    let law = g.met.F.Floating in
    let none = root_of_negative g.F.Floating.format (g.F.Floating.value c.args.x) (sym (above g (goal.at.returns g c).After-lt) ∙ c.if-lt.false) (sym (equal g (goal.at.returns g c).After-eq) ∙ c.if-eq.false) in
    rw (c.NAN.ensures, law.nan_is) none
