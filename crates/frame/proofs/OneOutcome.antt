-- Each public function's promise admits one outcome. Assumes nothing.
use Rattle.std.proofs.Common.{sym, ◌∙◌}
use Rattle.float.proofs.Outcome.{Single}
use Rattle.frame.proofs.Frame as Frame

pub zero_single : Single Frame.zero.Reads.Post
zero_single κs a r r' s s' p q = p ∙ sym q

pub new_single : Single Frame.new.Reads.Post
new_single κs a r r' s s' p q = p ∙ sym q

pub from_mono_single : Single Frame.from_mono.Reads.Post
from_mono_single κs a r r' s s' p q = p ∙ sym q

pub as_mono_single : Single Frame.as_mono.Reads.Post
as_mono_single κs a r r' s s' p q = p ∙ sym q

pub add_single : Single Frame.add.Reads.Post
add_single κs a r r' s s' p q = p ∙ sym q

pub sub_single : Single Frame.sub.Reads.Post
sub_single κs a r r' s s' p q = p ∙ sym q

pub mul_single : Single Frame.mul.Reads.Post
mul_single κs a r r' s s' p q = p ∙ sym q

pub div_single : Single Frame.div.Reads.Post
div_single κs a r r' s s' p q = p ∙ sym q

pub neg_single : Single Frame.neg.Reads.Post
neg_single κs a r r' s s' p q = p ∙ sym q

pub mixed_single : Single Frame.mixed.Reads.Post
mixed_single κs a r r' s s' p q = p ∙ sym q

pub panned_single : Single Frame.panned.Reads.Post
panned_single κs a r r' s s' p q = p ∙ sym q
