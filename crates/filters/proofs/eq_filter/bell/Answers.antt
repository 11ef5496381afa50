use lib.Ieee.{of_bits, round}
use Rattle.float.specs.Literal.{literal}
use Rattle.filters.specs.EqFilter.{bell_of}
use Rattle.filters.proofs.eq_filter.bell.Goals as goal

pub returns : goal.returns
unfolding bell_of literal round of_bits
returns c = rw c.weigh-a1.ensures
