-- `from_fn` calls its closure at each place in turn, and the closure gives the place's slot. Assumes nothing.
use Rattle.std.proofs.Common.{◌≡◌, subst, ◌∙◌, List, ℕ, zero, suc, ◌+◌, ◌≤◌, ◌<◌, arith, get_or, rules}
use native.Mathlib.Decide.{ℕ_discrete}
use denote.Param.Members.{Mut, Called}
use Rattle.std.specs.Array.{IsFromFnResultFrom}
use Rattle.memories.specs.Sizes.{places}
use Rattle.stage.specs.Setup.{unused}
use Rattle.stage.specs.declared.setup.Slot.{Slot}
use Rattle.stage.proofs.Listed.{listed_all}
use Rattle.stage_words.specs.Words.{count_of, stage_words, stage_of, setup_of}
use Rattle.stage_words.proofs.setup_of.Goals as goal

-- a closure that gives h k at k, and stays as it was, fills each place k with h k
module _ {F B : Type 0} (g : Mut F (ℕ × Unit {0}) B) (d : B) (h : ℕ → B) (ys : List B) where
  from_fn_at : (f : F) → ((k : ℕ) (y : B) (q : F) → Called g f (k, tt) y q → (y ≡ h k) × (q ≡ f))
      → (i n : ℕ) → IsFromFnResultFrom g f ys i n → (k : ℕ) → i ≤ k → k < i + n → get_or ys k d ≡ h k
  from_fn_at f same i zero each k a b = absurd (omega arith)
  from_fn_at f same i (suc n) each k a b =
      let here = same i each.1 each.0 each.3 in
      let rest = subst (λ q. IsFromFnResultFrom g q ys (i + 1) n) here.1 each.4 in
      go (ℕ_discrete k i) (each.2.1 d ∙ here.0) (λ ne. from_fn_at f same (i + 1) n rest k (omega arith) (omega arith))
    where
      go : Dec (k ≡ i) → get_or ys i d ≡ h i → ((k ≡ i → ⊥) → get_or ys k d ≡ h k) → get_or ys k d ≡ h k
      go (yes e) first later = rw e first
      go (no ne) first later = later ne

abbrev slot_of : List ℕ → ℕ → Slot
slot_of words i = record { stage = stage_of (stage_words words i) }

pub returns : goal.returns
unfolding setup_of
returns c =
    let words = c.args.words.now in
    let items = c.from_fn.ensures.items in
    let filled : (k : ℕ) → k < places → get_or c.from_fn.result k unused ≡ slot_of words k =
    λ k h. from_fn_at _ unused (slot_of words) c.from_fn.result _ (λ j y q call. let e : y ≡ slot_of words j = search rules in (e, λ i. record { 0 = call.met.1 i })) 0 places items.each k (omega arith) (omega arith) in
    λ i. record {
      rate = c.args.rate;
      count = count_of words;
      slots = listed_all (slot_of words) unused c.from_fn.result places items.long filled i;
    }
