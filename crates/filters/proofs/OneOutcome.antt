-- Each public function's promise admits one outcome. Assumes nothing.
use Rattle.std.proofs.Common.{sym, ◌∙◌}
use Rattle.float.proofs.Outcome.{Single}
use Rattle.filters.proofs.filter.process as filter
use Rattle.filters.proofs.eq_filter.Coefficients.calculate as calculate
use Rattle.filters.proofs.eq_filter.process as eq

pub filter_single : Single filter.Reads.Post
filter_single κs a r r' s s' p q = p ∙ sym q

pub calculate_single : Single calculate.Reads.Post
calculate_single κs a r r' s s' p q = p ∙ sym q

pub eq_single : Single eq.Reads.Post
eq_single κs a r r' s s' p q = p ∙ sym q
