-- Each public function's promise admits one outcome. Assumes nothing.
use Rattle.std.proofs.Common.{◌≡◌, sym, ◌∙◌}
use Rattle.float.proofs.Outcome.{Single}
use Rattle.stage.proofs.kind.Stage as stage
use Rattle.stage.proofs.setup.Setup as setup

pub holding_single : Single stage.holding.Reads.Post
holding_single κs a r r' s s' p q = p ∙ sym q

pub in_range_single : Single stage.in_range.Reads.Post
in_range_single κs a r r' s s' p q = p ∙ sym q

pub next_place_single : Single stage.next_place.Reads.Post
next_place_single κs a r r' s s' p q = p.0 ∙ sym q.0

pub empty_single : Single setup.empty.Reads.Post
empty_single κs a r r' s s' p q = p ∙ sym q

pub with_single : Single setup.with.Reads.Post
with_single κs a r r' s s' p q = p ∙ sym q

pub used_single : Single setup.used.Reads.Post
used_single κs a r r' s s' p q = p ∙ sym q

-- `stages` gives a `&`: a caller sees what it points to.
abbrev SingleSeen : {L D : Type 0} {A B C : L → Type 0} → ((κs : L) → A κs → B κs → C κs → Type 0) → ((κs : L) → B κs → D) → Type 0
SingleSeen {L} {D} {A} {B} {C} Post seen = (κs : L) (a : A κs) (r r' : B κs) (s s' : C κs) → Post κs a r s → Post κs a r' s' → seen κs r ≡ seen κs r'

pub stages_single : SingleSeen setup.stages.Reads.Post (λ κs r. r.now)
stages_single κs a r r' s s' p q = p ∙ sym q
