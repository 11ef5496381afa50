-- The public function's promise admits one outcome. It is lent two slices by `&`, which it cannot change, so a caller sees the result and nothing else. Assumes nothing.
use Rattle.std.proofs.Common.{sym, ◌∙◌}
use Rattle.float.proofs.Outcome.{Single}
use Rattle.same_slices.proofs.floats as floats

pub floats_single : Single floats.Reads.Post
floats_single κs a r r' s s' p q = p ∙ sym q
