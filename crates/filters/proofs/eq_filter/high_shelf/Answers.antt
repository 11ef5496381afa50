use lib.Ieee.{of_bits, round}
use Rattle.float.specs.Literal.{literal}
use Rattle.filters.specs.EqFilter.{high_shelf_of}
use Rattle.filters.proofs.eq_filter.high_shelf.Goals as goal

pub returns : goal.returns
unfolding high_shelf_of literal round of_bits
returns c = rw (c.weigh-a1.ensures, c.sqrt.ensures)
