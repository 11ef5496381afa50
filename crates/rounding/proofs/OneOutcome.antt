-- Each public function's promise admits one outcome. Assumes nothing.
use Rattle.std.proofs.Common.{sym, ◌∙◌}
use denote.RattleType.{RattleType}
use Rattle.float.specs.declared.floating.Floating.{Ghosts}
use Rattle.float.proofs.Outcome.{Single, Known}
use Rattle.rounding.proofs.sqrt as sqrt
use Rattle.rounding.proofs.narrow as narrow
use Rattle.rounding.proofs.quotient as quotient

pub sqrt_single : (T B : RattleType) (k l m n : _) (f : Ghosts T.Denot B.Denot) (o p q r s t u v w : _) → Known f.value → Single (sqrt.sqrt.Reads.Post T B k l m n f o p q r s t u v w)
sqrt_single T B k l m n f o p q r s t u v w known κs a x x' e e' h h' = known x x' (h ∙ sym h')

pub as_f32_single : Single narrow.as_f32.Reads.Post
as_f32_single κs a r r' s s' p q = p ∙ sym q

pub nearest_quotient_single : Single quotient.nearest_quotient.Reads.Post
nearest_quotient_single κs a r r' s s' p q = p ∙ sym q
