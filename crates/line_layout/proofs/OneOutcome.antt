-- Each public function's promise admits one outcome. `size_between` and `is_lost` are lent a list by `&`, which they cannot change, so there too a caller sees the result and nothing else. Assumes nothing.
use Rattle.std.proofs.Common.{sym, ◌∙◌}
use Rattle.float.proofs.Outcome.{Single}
use Rattle.line_layout.proofs.layout as layout
use Rattle.line_layout.proofs.lines as lines

pub floats_of_single : Single lines.floats_of.Reads.Post
floats_of_single κs a r r' s s' p q = p.0 ∙ sym q.0

pub is_lost_single : Single lines.is_lost.Reads.Post
is_lost_single κs a r r' s s' p q = p ∙ sym q

pub of_single : Single layout.Layout.of.Reads.Post
of_single κs a r r' s s' p q = λ i. record { setup = (p.0 ∙ sym q.0) i; starts = (p.1 ∙ sym q.1) i }

pub size_between_single : Single layout.Layout.size_between.Reads.Post
size_between_single κs a r r' s s' p q = p ∙ sym q

pub needed_single : Single layout.needed.Reads.Post
needed_single κs a r r' s s' p q = p ∙ sym q
