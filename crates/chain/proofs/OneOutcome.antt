-- Each public function's promise admits one outcome: the answer, and all that it leaves. Assumes nothing.
use Rattle.std.proofs.Common.{◌≡◌, sym, ap, ◌∙◌, true≢false, ℕ, List, Float, Result, Ok, Err, is_ok}
use Rattle.float.proofs.Outcome.{SingleLent}
use Rattle.memories.specs.declared.Memories.{Memories}
use Rattle.answer.specs.declared.Refusal.{Refusal}
use Rattle.answer.specs.Answer.{Answer}
use Rattle.chain.specs.declared.run.Outcome.{Outcome}
use Rattle.chain.specs.Block.{block, answer_given, carried}
use Rattle.chain.proofs.run as run
use Rattle.chain.proofs.render as render

-- what `run` and `render` leave: samples and store
pub record Leaves : Type 0 where
  pub samples : List Float
  pub store : List Float

-- what a refused call gives back, by its answer
refused : Result Outcome Refusal → Answer → Result Outcome Refusal
refused r (Ok given) = r
refused r (Err refusal) = Err refusal

-- two calls of which the answer and what is left are the same, the memories and the progress among it
module _ (memories : Memories) (progress : List ℕ) {xs st xs' st' : List Float} where
  same_outcome : (r r' : Result Outcome Refusal) → answer_given r ≡ answer_given r'
      → block xs st (carried memories progress r) ≡ block xs' st' (carried memories progress r') → r ≡ r'
  unfolding refused
  same_outcome (Ok o) (Ok o') e f =
      λ i. Ok (record { memories = record { positions = (f i).held.positions; floats = (f i).held.floats }; progress = (f i).progress })
  same_outcome (Ok o) (Err refusal) e f = absurd (true≢false (ap is_ok e))
  same_outcome (Err refusal) (Ok o) e f = absurd (true≢false (sym (ap is_ok e)))
  same_outcome (Err refusal) (Err refusal') e f = ap (refused (Err refusal)) e

same_leaves : {xs st xs' st' : List Float} {o o' : Outcome} → block xs st o ≡ block xs' st' o' → ◌≡◌ {A = Leaves} (record { samples = xs; store = st }) (record { samples = xs'; store = st' })
same_leaves f = λ i. record { samples = (f i).samples; store = (f i).held.store }

pub run_single : SingleLent {D = Leaves} run.run.Reads.Post (λ κs s. record { samples = s.1.0.now; store = s.1.1.1.0.now })
run_single κs a r r' s s' p q = (same_outcome _ _ r r' (p.0 ∙ sym q.0) (p.1 ∙ sym q.1), same_leaves (p.1 ∙ sym q.1))

pub render_single : SingleLent {D = Leaves} render.render.Reads.Post (λ κs s. record { samples = s.1.0.now; store = s.1.1.1.0.now })
render_single κs a r r' s s' p q = (same_outcome _ _ r r' (p.0 ∙ sym q.0) (p.1 ∙ sym q.1), same_leaves (p.1 ∙ sym q.1))
