-- Each public function's promise admits one outcome. Assumes nothing.
use Rattle.std.proofs.Common.{sym, ◌∙◌}
use denote.RattleType.{RattleType}
use Rattle.float.specs.declared.floating.Floating.{Ghosts}
use Rattle.float.proofs.Outcome.{Single, Known}
use Rattle.float.proofs.bits as bits
use Rattle.float.proofs.clamp as clamp
use Rattle.float.proofs.finite as finite

pub to_bits_single : (T B : RattleType) (k l m n : _) (f : Ghosts T.Denot B.Denot) (o p q r s t u v w : _) → Known f.number → Single (bits.to_bits.Reads.Post T B k l m n f o p q r s t u v w)
to_bits_single T B k l m n f o p q r s t u v w known κs a x x' e e' h h' = known x x' (h ∙ sym h')

pub from_bits_single : (T B : RattleType) (k l m n : _) (f : Ghosts T.Denot B.Denot) (o p q r s t u v w : _) → Known f.value → Single (bits.from_bits.Reads.Post T B k l m n f o p q r s t u v w)
from_bits_single T B k l m n f o p q r s t u v w known κs a x x' e e' h h' = known x x' (h ∙ sym h')

pub abs_single : Single clamp.abs.Reads.Post
abs_single κs a r r' s s' p q = p ∙ sym q

pub clamp_unit_single : (T B : RattleType) (k l m n : _) (f : Ghosts T.Denot B.Denot) (o p q r s t u v w : _) → Known f.value → Single (clamp.clamp_unit.Reads.Post T B k l m n f o p q r s t u v w)
clamp_unit_single T B k l m n f o p q r s t u v w known κs a x x' e e' h h' = known x x' (h ∙ sym h')

pub clamp_signed_unit_single : Single clamp.clamp_signed_unit.Reads.Post
clamp_signed_unit_single κs a r r' s s' p q = p ∙ sym q

pub at_least_hundredth_single : Single clamp.at_least_hundredth.Reads.Post
at_least_hundredth_single κs a r r' s s' p q = p ∙ sym q

pub is_finite_single : (T B : RattleType) (k l m n : _) (f : Ghosts T.Denot B.Denot) (o p q r s t u v w : _) → Single (finite.is_finite.Reads.Post T B k l m n f o p q r s t u v w)
is_finite_single T B k l m n f o p q r s t u v w κs a x x' e e' h h' = h ∙ sym h'
