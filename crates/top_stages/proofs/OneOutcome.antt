-- The promise of `Tops::of` admits one outcome. Assumes nothing.
use Rattle.std.proofs.Common.{sym, ◌∙◌}
use Rattle.float.proofs.Outcome.{Single}
use Rattle.top_stages.proofs.Tops as tops

pub of_single : Single tops.of.Reads.Post
of_single κs a r r' s s' p q = p ∙ sym q
