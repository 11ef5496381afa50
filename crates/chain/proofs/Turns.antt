-- The loops that run an order: what holds at each turn. Assumes nothing.
use Rattle.std.proofs.Common.{◌≡◌, refl, sym, ◌∙◌, ◌≢◌, List, ◌∷◌, ◌++◌, ℕ, zero, suc, ◌+◌, ◌-◌, ◌≤◌, ◌<◌, arith, add-one, Float, length, get_or, drop, replicate, drop_of_length-le, drop-cons}
use Rattle.line.specs.Held.{Held}
use Rattle.theory_order.specs.Order.{count, run, Allowed}
use Rattle.theory_order.specs.Chain.{State, at, step, Ok, Inv}
use Rattle.theory_order.specs.Claims.{Stepped, Kept}
use Rattle.theory_order.specs.Finish.{finishing_from}
use Rattle.theory_order.proofs.Orders.{hit_other, run_append, accepted_prefix, accepted_suffix}
use Rattle.theory_order.proofs.OneStep.{one_step}
use Rattle.theory_order.proofs.Keeps.{run_keeps}
use Rattle.theory_order.proofs.Finishing.{finishing_finishes}
use Rattle.stage.specs.declared.setup.Setup.{Setup}
use Rattle.top_stages.specs.Tops.{tops_of}
use Rattle.chain.specs.Chain.{chain_of, Room, frames_of, Ready, May, Orderly, stepped, ordered}
use Rattle.chain.specs.Run.{order_to_end}
use Rattle.chain.proofs.ChainLocal.{Sized, chain_local}

-- of an order from s₀ on, xs is left at s
pub record Pending (setup : Setup) (s₀ : State Float Held) (order : List ℕ) (s : State Float Held) (xs : List ℕ) : Type 0 where
  pub ready : Inv (chain_of setup) (Room setup) (frames_of s₀.samples) s
  pub orderly : Allowed (step (chain_of setup) (frames_of s₀.samples)) (Ok (chain_of setup) (frames_of s₀.samples)) s xs
  pub same : run (step (chain_of setup) (frames_of s₀.samples)) s xs ≡ ordered setup s₀ order
  pub long : length s.samples ≡ length s₀.samples

-- of the order that brings every top stage to the last frame, what is left is of the stages from k on, which are where they were
pub record Finished (setup : Setup) (s₀ : State Float Held) (k : ℕ) (s : State Float Held) : Type 0 where
  pub pending : Pending setup s₀ (order_to_end setup s₀) s (finishing_from k (tops_of setup - k) (frames_of s₀.samples) s₀.progress)
  pub rest : (j : ℕ) → k ≤ j → at s j ≡ at s₀ j

pub pending_first : {setup : Setup} {s₀ : State Float Held} {order : List ℕ} → Ready setup s₀ → Orderly setup s₀ order → Pending setup s₀ order s₀ order
pending_first r o = record { ready = r; orderly = o; same = refl; long = refl }

module _ {setup : Setup} {s₀ : State Float Held} {order : List ℕ} {s : State Float Held} where
  -- ---- an order of which some is left
  pub pending_ready : {xs : List ℕ} → Pending setup s₀ order s xs → Ready setup s
  pending_ready t = rw t.long t.ready

  pub pending_may : {k : ℕ} {xs : List ℕ} → Pending setup s₀ order s (k ∷ xs) → May setup s k
  pending_may t = rw t.long t.orderly.0

  one : {k : ℕ} {xs : List ℕ} → Pending setup s₀ order s (k ∷ xs) → Stepped (chain_of setup) (Room setup) (frames_of s₀.samples) k s (step (chain_of setup) (frames_of s₀.samples) k s)
  one {k} t = one_step (chain_of setup) (Room setup) (Sized setup) (chain_local setup) (frames_of s₀.samples) s k t.ready t.orderly.0

  pub pending_next : {k : ℕ} {xs : List ℕ} {z : State Float Held} → Pending setup s₀ order s (k ∷ xs) → z ≡ stepped setup k s → Pending setup s₀ order z xs
  pending_next t e = let o = one t in rw (e, t.long) (record { ready = o.inv; orderly = t.orderly.1; same = t.same; long = o.samples ∙ t.long })

  some : (xs ys : List ℕ) → Pending setup s₀ order s (xs ++ ys) → Kept (chain_of setup) (Room setup) (frames_of s₀.samples) xs s (run (step (chain_of setup) (frames_of s₀.samples)) s xs)
  some xs ys t =
      run_keeps (chain_of setup) (Room setup) (Sized setup) (chain_local setup) (frames_of s₀.samples) xs s t.ready
      (accepted_prefix (step (chain_of setup) (frames_of s₀.samples)) (Ok (chain_of setup) (frames_of s₀.samples)) xs ys s t.orderly)

  -- ---- an order, entry by entry
  pub all_turn : (at : ℕ) → at < length order → Pending setup s₀ order s (drop at order) → Pending setup s₀ order s (get_or order at 0 ∷ drop (at + 1) order)
  all_turn at h t = rw (drop-cons order at 0 h, ← add-one at) at t

  pub all_last : (at : ℕ) → length order ≤ at → Pending setup s₀ order s (drop at order) → s ≡ ordered setup s₀ order
  all_last at h t = (rw (drop_of_length-le order h) at t).same

  -- ---- one top stage, to the last frame
  module _ (k : ℕ) where
    pub end_turn : at s k < frames_of s₀.samples → Pending setup s₀ order s (replicate (frames_of s₀.samples - at s k) k) → Pending setup s₀ order s (k ∷ replicate (frames_of s₀.samples - suc (at s k)) k)
    end_turn h t = let e : frames_of s₀.samples - at s k ≡ suc (frames_of s₀.samples - suc (at s k)) = omega arith in rw e at t

    module _ {z : State Float Held} (h : at s k < frames_of s₀.samples) (t : Pending setup s₀ order s (replicate (frames_of s₀.samples - at s k) k)) (e : z ≡ stepped setup k s) where
      pub end_moved : at z k ≡ suc (at s k)
      end_moved = rw (e, t.long) (one (end_turn h t)).moved

      pub end_next : Pending setup s₀ order z (replicate (frames_of s₀.samples - at z k) k)
      end_next = rw end_moved (pending_next (end_turn h t) e)

    pub end_last : frames_of s₀.samples ≤ at s k → Pending setup s₀ order s (replicate (frames_of s₀.samples - at s k) k) → s ≡ ordered setup s₀ order
    end_last h t = let e : frames_of s₀.samples - at s k ≡ 0 = omega arith in (rw e at t).same

-- ---- every top stage, to the last frame

others_none : (j k d : ℕ) → j ≢ k → count j (replicate d k) ≡ 0
unfolding count
others_none j k zero h = refl
others_none j k (suc d) h = omega (arith, hit_other j k h, others_none j k d h)

pub finish_first : {setup : Setup} {s₀ : State Float Held} → Ready setup s₀ → Finished setup s₀ 0 s₀
finish_first {setup} {s₀} r = record {
  pending = let e : tops_of setup - 0 ≡ tops_of setup = omega arith in rw e (pending_first r (finishing_finishes (chain_of setup) (Room setup) (Sized setup) (chain_local setup) (frames_of s₀.samples) s₀ r).accepted);
  rest = λ j h. refl;
}

module _ {setup : Setup} {s₀ : State Float Held} {k : ℕ} {s : State Float Held} (t : Finished setup s₀ k s) where
  module _ (h : k < tops_of setup) where
    -- what is left is of stage k, and then of others
    abbrev mine : List ℕ
    mine = replicate (frames_of s₀.samples - at s k) k

    abbrev others : List ℕ
    others = finishing_from (k + 1) (tops_of setup - (k + 1)) (frames_of s₀.samples) s₀.progress

    finish_turn : Pending setup s₀ (order_to_end setup s₀) s (mine ++ others)
    unfolding finishing_from
    finish_turn =
        let e : tops_of setup - k ≡ suc (tops_of setup - suc k) = omega arith in
        rw (t.rest k (omega arith), add-one k) (rw e at t.pending)

    pub finish_orderly : Orderly setup s (replicate (frames_of s.samples - at s k) k)
    finish_orderly =
        rw t.pending.long (accepted_prefix (step (chain_of setup) (frames_of s₀.samples)) (Ok (chain_of setup) (frames_of s₀.samples)) mine others s finish_turn.orderly)

    pub finish_next : {z : State Float Held} → z ≡ ordered setup s (replicate (frames_of s.samples - at s k) k) → Finished setup s₀ (k + 1) z
    finish_next e =
        let C = chain_of setup in
        let F : ℕ = frames_of s₀.samples in
        let o = some mine others finish_turn in
        rw (e, t.pending.long) (record {
          pending = record {
            ready = o.inv;
            orderly = accepted_suffix (step C F) (Ok C F) mine others s finish_turn.orderly;
            same = sym (run_append (step C F) mine others s) ∙ finish_turn.same;
            long = o.samples ∙ t.pending.long;
          };
          rest = λ j g. omega (arith, o.moved j, others_none j k (F - at s k) (omega arith), t.rest j (omega arith));
        })

  pub finish_last : tops_of setup ≤ k → s ≡ ordered setup s₀ (order_to_end setup s₀)
  unfolding finishing_from
  finish_last h = let e : tops_of setup - k ≡ 0 = omega arith in (rw e at t.pending).same
