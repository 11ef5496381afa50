use lib.Ieee.{of_bits, round}
use Rattle.float.specs.Literal.{literal}
use Rattle.line.specs.Comb.{store_of, combed_of, comb_line_of}
use Rattle.line.proofs.comb.process.Goals as goal

pub returns : goal.returns
unfolding store_of combed_of comb_line_of literal round of_bits
returns c =
    (rw (c.next_position-next.ensures, c.float_at-output.ensures), rw (c.put_float.ensures, c.float_at-output.ensures))
