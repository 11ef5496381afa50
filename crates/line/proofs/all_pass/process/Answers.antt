use lib.Ieee.{of_bits, round}
use Rattle.float.specs.Literal.{literal}
use Rattle.line.specs.AllPass.{passed_of, pass_line_of}
use Rattle.line.proofs.all_pass.process.Goals as goal

pub returns : goal.returns
unfolding passed_of pass_line_of literal round of_bits
returns c =
    (rw (c.next_position-next.ensures, c.float_at-buffer_output.ensures), rw (c.put_float.ensures, c.float_at-buffer_output.ensures))
