-- `step` gives what `stepped_of` says: each call's promise is put in, the last call first, and the literal 2.0 is read by computation.
use lib.Ieee.{of_bits, round}
use Rattle.float.specs.Literal.{literal}
use Rattle.integrators.specs.Integrators.{stepped_of}
use Rattle.integrators.proofs.step.Goals as goal

pub returns : goal.returns
unfolding stepped_of literal round of_bits
returns c =
    rw (c.sub-2.ensures, c.mul-6.ensures, c.sub.ensures, c.mul-5.ensures, c.add-v2.ensures, c.mul-4.ensures, c.add.ensures, c.mul-3.ensures, c.add-v1.ensures, c.mul-2.ensures, c.mul.ensures, c.sub-v3.ensures)
