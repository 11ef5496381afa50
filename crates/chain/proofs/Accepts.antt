-- An accepted call can be run, and what it leaves is accepted again with every order that may go on from there. Assumes nothing.
use Rattle.std.proofs.Common.{◌≡◌, sym, ap, ◌∙◌, subst, List, [], ◌∷◌, ◌++◌, ℕ, suc, ◌-◌, arith, add-one, Float, length, get_or, set}
use Rattle.line.specs.Held.{Held}
use Rattle.line.proofs.Keeps.{Same}
use Rattle.theory_order.specs.Order.{Allowed}
use Rattle.theory_order.specs.Chain.{State, Chain, OkFrom, Ok, step, put, out}
use Rattle.theory_order.proofs.Falls.{falls_from_next}
use Rattle.theory_order.specs.Claims.{Stepped}
use Rattle.theory_order.proofs.OneStep.{one_step, made}
use Rattle.stage.specs.declared.setup.Setup.{Setup}
use Rattle.top_stages.specs.Tops.{top_at, tops_of}
use Rattle.order_entries.specs.Entries.{tick}
use Rattle.theory_refusals.proofs.Clear.{Clear}
use Rattle.top_stages.proofs.TopStages.{tops_few, top_le, top_next}
use Rattle.chain.specs.Chain.{Room, chain_of, frames_of, Ready, Orderly, stepped, ordered}
use Rattle.chain.specs.Demands.{Arrays}
use Rattle.chain.proofs.Stretches.{replaced_same}
use Rattle.chain.proofs.ChainLocal.{Sized, chain_local}
use Rattle.chain.proofs.Stays.{still_finite, still_found}

-- no row of the table applies to this call
abbrev pub ClearOn : Setup → State Float Held → List ℕ → Type 0
ClearOn setup s order = Clear setup (length s.held.store) s.samples s.held.positions s.progress order

-- ---- entries that may be run by their progress alone are an accepted order of the chain, and back
module _ {X H : Type 0} (C : Chain X H) (F : ℕ) where
  ticked : (k : ℕ) (s : State X H) → tick k s.progress ≡ (step C F k s).progress
  unfolding step put
  ticked k s = ap (set s.progress k) (add-one (get_or s.progress k 0))

  pub runs→orderly : (order : List ℕ) (s : State X H) → Allowed tick (OkFrom C.n F) s.progress order → Allowed (step C F) (Ok C F) s order
  runs→orderly [] s a = tt
  runs→orderly (k ∷ ks) s a = (a.0, runs→orderly ks (step C F k s) (subst (λ (p : List ℕ). Allowed tick (OkFrom C.n F) p ks) (ticked k s) a.1))

  pub orderly→runs : (order : List ℕ) (s : State X H) → Allowed (step C F) (Ok C F) s order → Allowed tick (OkFrom C.n F) s.progress order
  orderly→runs [] s a = tt
  orderly→runs (k ∷ ks) s a = (a.0, subst (λ (p : List ℕ). Allowed tick (OkFrom C.n F) p ks) (sym (ticked k s)) (orderly→runs ks (step C F k s) a.1))

module _ (setup : Setup) where
  pub ready : (s : State Float Held) (order : List ℕ) → Arrays s → ClearOn setup s order → Ready setup s
  ready s order a z = record {
    samples = omega arith;
    held = record { store = z.room; positions = omega (arith, a.positions, z.few); floats = omega (arith, a.floats, z.few) };
    stages = omega (arith, tops_few setup, a.progress);
    within = z.within;
    falls = falls_from_next (tops_of setup) s.progress (λ k h g. z.falls k g h);
  }

  pub orderly : (s : State Float Held) (order : List ℕ) → ClearOn setup s order → Orderly setup s order
  orderly s order z = runs→orderly (chain_of setup) (frames_of s.samples) order s z.runs

  -- another order that may be run from there is clear too
  pub clear_with : (s : State Float Held) (xs ys : List ℕ) → ClearOn setup s xs → Orderly setup s ys → ClearOn setup s ys
  clear_with s xs ys z o = record { slow = z.slow; fast = z.fast; few = z.few; shapes = z.shapes; settings = z.settings; room = z.room; found = z.found; even = z.even; short = z.short; within = z.within; falls = z.falls; finite = z.finite; runs = orderly→runs (chain_of setup) (frames_of s.samples) ys s o }

  -- ---- after a step of the first entry the others are clear
  module _ (s : State Float Held) (k : ℕ) (order : List ℕ) (a : Arrays s) (z : ClearOn setup s (k ∷ order)) where
    v : Ready setup s
    v = ready s (k ∷ order) a z

    w : Stepped (chain_of setup) (Room setup) (frames_of s.samples) k s (stepped setup k s)
    w = one_step (chain_of setup) (Room setup) (Sized setup) (chain_local setup) (frames_of s.samples) s k v z.runs.0

    held_same : Same (stepped setup k s).held s.held
    held_same =
        subst (λ (h : Held). Same h s.held) (sym w.held)
        (replaced_same setup s.held v.held (top_at setup k) (top_at setup (suc k)) (top_next setup k) (top_le setup (suc k)) (out (chain_of setup) (frames_of s.samples) k s).held
        (made (chain_of setup) (Room setup) (Sized setup) (chain_local setup) (frames_of s.samples) s k v z.runs.0).held)

    -- an order that begins with k is that step, and then the rest of it
    pub step_first : (xs : List ℕ) → ordered setup (stepped setup k s) xs ≡ ordered setup s (k ∷ xs)
    step_first xs = rw w.samples

    pub arrays_stay : Arrays (stepped setup k s)
    arrays_stay = record { positions = held_same.positions ∙ a.positions; floats = held_same.floats ∙ a.floats; progress = w.progress ∙ a.progress }

    pub clear_stays : ClearOn setup (stepped setup k s) order
    clear_stays = record {
      slow = z.slow;
      fast = z.fast;
      few = z.few;
      shapes = z.shapes;
      settings = z.settings;
      room = omega (arith, held_same.store, z.room);
      found = still_found setup s k v z.runs.0 z.found;
      even = rw w.samples z.even;
      short = rw w.samples z.short;
      within = λ j h. rw w.samples (w.inv.within j h);
      falls = λ j h g. w.inv.falls (j - 1) j (omega arith) h;
      finite = still_finite setup s k v z.runs.0 z.finite;
      runs = rw w.samples (subst (λ (p : List ℕ). Allowed tick (OkFrom (tops_of setup) (frames_of s.samples)) p order) (ticked (chain_of setup) (frames_of s.samples) k s) z.runs.1);
    }

  -- after any part of it, the rest is
  pub clear_after : (xs ys : List ℕ) (s : State Float Held) → Arrays s → ClearOn setup s (xs ++ ys) → Arrays (ordered setup s xs) × ClearOn setup (ordered setup s xs) ys
  clear_after [] ys s a z = (a, z)
  clear_after (k ∷ xs) ys s a z = rw (step_first s k (xs ++ ys) a z xs) at (clear_after xs ys (stepped setup k s) (arrays_stay s k (xs ++ ys) a z) (clear_stays s k (xs ++ ys) a z))
