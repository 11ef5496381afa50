-- How a call on a block goes on that can be read, whatever copies its memories and progress in and out: what it replies and leaves is what the chain answers and leaves of what was lent. Assumes nothing.
use Rattle.std.proofs.Common.{◌≡◌, refl, sym, ap, ◌∙◌, ℕ, List, length, Float, eq-eqb, ne_eqb, eqb-true, Result, Ok}
use Rattle.line.specs.Held.{Held}
use Rattle.theory_order.specs.Chain.{State}
use Rattle.memories.specs.Sizes.{places, all_positions, all_floats}
use Rattle.stage.specs.declared.setup.Setup.{Setup}
use Rattle.answer.specs.declared.Refusal.{Refusal}
use Rattle.answer.specs.Answer.{Answer, accepted}
use Rattle.chain.specs.declared.run.Outcome.{Outcome}
use Rattle.chain.specs.Chain.{state}
use Rattle.chain.specs.Block.{block, answer_given, carried}
use Rattle.stage_words.specs.Words.{setup_of}
use Rattle.sedhavil.specs.declared.Reply.{Reply}
use Rattle.sedhavil.specs.declared.read.Call.{Call}
use Rattle.sedhavil.specs.Call.{reply_of, read}
use Rattle.sedhavil.specs.Read.{carried_in, call_of}
use Rattle.sedhavil.specs.Face.{block_fault}
use Rattle.sedhavil.proofs.Calls.{call_ok, sized}

-- ---- a call by its test: of its fault, found as r
module _ {fault r : Reply} (e : r ≡ fault) {A : Type 0} (x y : A) where
  pub refused : (r.number ≡ 0 → ⊥) → read fault x y ≡ y
  refused h = rw (ne_eqb fault.number 0 (λ z. h (rw e z)))

  pub taken : r.number ≡ 0 → read fault x y ≡ x
  taken h = rw (eq-eqb fault.number 0 (rw e at h))

-- ---- a call on a block that can be read: its memories and progress were copied in from what was lent, and what it left of them was copied back there

module _ (words : List ℕ) (xs st : List Float) (p : List ℕ) (f : List Float) (g : List ℕ) where
  abbrev lent : State Float Held
  lent = state xs st p f g

  pub block_taken : {fault : Reply} → fault ≡ block_fault words lent → fault.number ≡ 0
      → (answering : Setup → State Float Held → Answer) (leaving : Setup → State Float Held → State Float Held)
      {setup setup' : Setup} → setup ≡ setup'
      → {p₁ : List ℕ} {f₁ : List Float} {g₁ : List ℕ} → (length p ≡ all_positions → p₁ ≡ p) × (length f ≡ all_floats → f₁ ≡ f) → (length g ≡ places → g₁ ≡ g)
      → {a : Answer} {xs' st' f₂ : List Float} {p₂ g₂ : List ℕ} → (a ≡ answering setup (state xs st p₁ f₁ g₁)) × (state xs' st' p₂ f₂ g₂ ≡ leaving setup (state xs st p₁ f₁ g₁))
      → {r : Reply} {p₃ g₃ : List ℕ} {f₃ : List Float} → (r ≡ reply_of a) × (length p ≡ all_positions → p₃ ≡ p₂) × (length f ≡ all_floats → f₃ ≡ f₂) × (length g ≡ places → g₃ ≡ g₂)
      → (r ≡ read (block_fault words lent) (reply_of (answering setup' lent)) (block_fault words lent)) × (state xs' st' p₃ f₃ g₃ ≡ read (block_fault words lent) (leaving setup' lent) lent)
  block_taken e h answering leaving same gathered got made back =
      let z = sized words (eq-eqb (block_fault words lent).number 0 (rw e at h)) in
      let p_in = gathered.0 z.positions_all in
      let f_in = gathered.1 z.floats_all in
      let g_in = got z.progress_all in
      let p_out = back.1 z.positions_all in
      let f_out = back.2 z.floats_all in
      let g_out = back.3 z.progress_all in
      (rw (taken e _ _ h) (cc), rw (taken e _ _ h) (cc))

  -- ---- as the exports copy: `read_call` in, and `hand_back` out of what `run` or `render` gave
  module _ (rate : ℕ) {call : Call} (given : Result Outcome Refusal) (e : Ok call ≡ call_of rate words p f g) where
    -- the memories and the progress after it
    abbrev after : Outcome
    after = carried call.carried.memories call.carried.progress given

    readable : (block_fault words lent).number ≡ 0
    readable = eqb-true _ 0 (call_ok rate words p f g e).0

    chain_read : call.setup ≡ setup_of rate words
    chain_read = ap (λ (k : Call). k.setup) (call_ok rate words p f g e).1

    carried_read : call.carried ≡ carried_in p f g
    carried_read = ap (λ (k : Call). k.carried) (call_ok rate words p f g e).1

    -- whatever is answered and left
    copied : (answering : Setup → State Float Held → Answer) (leaving : Setup → State Float Held → State Float Held)
        → {a : Answer} {xs' st' f₂ : List Float} {p₂ g₂ : List ℕ} → (a ≡ answering call.setup (block xs st call.carried)) × (state xs' st' p₂ f₂ g₂ ≡ leaving call.setup (block xs st call.carried))
        → {r : Reply} {p₃ g₃ : List ℕ} {f₃ : List Float} → (r ≡ reply_of a) × (p₃ ≡ p₂) × (f₃ ≡ f₂) × (g₃ ≡ g₂)
        → (r ≡ read (block_fault words lent) (reply_of (answering (setup_of rate words) lent)) (block_fault words lent)) × (state xs' st' p₃ f₃ g₃ ≡ read (block_fault words lent) (leaving (setup_of rate words) lent) lent)
    copied answering leaving made back =
        block_taken refl readable answering leaving chain_read
        (λ n. ap (λ (o : Outcome). o.memories.positions) carried_read, λ n. ap (λ (o : Outcome). o.memories.floats) carried_read)
        (λ n. ap (λ (o : Outcome). o.progress) carried_read)
        made
        (back.0, λ n. back.1, λ n. back.2, λ n. back.3)

    pub taken_answer : (answering : Setup → State Float Held → Answer) {r : Reply}
        → answer_given given ≡ answering call.setup (block xs st call.carried)
        → r ≡ reply_of (answer_given given)
        → r ≡ read (block_fault words lent) (reply_of (answering (setup_of rate words) lent)) (block_fault words lent)
    taken_answer answering a r = (copied answering (λ setup s. block xs st after) (a, refl) (r, refl, refl, refl)).0

    pub taken_leaves : (leaving : Setup → State Float Held → State Float Held) {xs' st' f' : List Float} {p' g' : List ℕ}
        → block xs' st' after ≡ leaving call.setup (block xs st call.carried)
        → carried_in p' f' g' ≡ carried (record { positions = p; floats = f }) g given
        → state xs' st' p' f' g' ≡ read (block_fault words lent) (leaving (setup_of rate words) lent) lent
    taken_leaves leaving l h =
        let out : carried_in _ _ _ ≡ after = h ∙ ap (λ (o : Outcome). carried o.memories o.progress given) (sym carried_read) in
        (copied (λ setup s. accepted) leaving (refl, l) (refl, ap (λ (o : Outcome). o.memories.positions) out, ap (λ (o : Outcome). o.memories.floats) out, ap (λ (o : Outcome). o.progress) out)).1
