-- Demands 2 and 3 are met, as specs/Demands.antt states them. Assumes nothing.
use Rattle.std.proofs.Common.{◌≡◌, sym, ap, ◌∙◌, subst, List, [], ◌∷◌, ℕ, suc, ◌*◌, ◌≤◌, arith, Float, length}
use Rattle.line.specs.Held.{Held}
use Rattle.theory_order.specs.Chain.{State, moment, Chain, Out, at, out}
use Rattle.theory_order.specs.Render.{frames, from}
use Rattle.theory_order.specs.Claims.{Whole, Finishes}
use Rattle.theory_order.proofs.OneStep.{made, one_step}
use Rattle.theory_order.proofs.Agree.{orders_agree}
use Rattle.theory_order.proofs.FrameByFrame.{frames_whole, frame_by_frame_lem, order_renders}
use Rattle.theory_order.proofs.Finishing.{finishing_finishes, leaves_finishing}
use Rattle.stage.specs.declared.setup.Setup.{Setup}
use Rattle.memories.specs.Sizes.{place_positions, place_floats}
use Rattle.stage.specs.Setup.{used_of}
use Rattle.line_layout.specs.Layout.{start_of}
use Rattle.answer.specs.Answer.{accepted_of}
use Rattle.top_stages.specs.Tops.{top_at, tops_of}
use Rattle.top_stages.proofs.TopStages.{top_le, top_next}
use Rattle.theory_refusals.proofs.Clears.{accepted_of_clear}
use Rattle.chain.specs.Chain.{stretch, Room, chain_of, frames_of, Ready, May, stepped}
use Rattle.chain.specs.Run.{leaves_of, order_to_end}
use Rattle.chain.specs.Demands.{Arrays, Outside, Taken, AllAt, Finishing, StepByStep, EntriesDecide, held_by, next_frame, OneStep, StepsKeepApart, Alike, StepsStandAlone, AnyOrder, WholeFrames, RenderIsRun}
use Rattle.chain.proofs.Stretches.{stretch_same, outside_store, outside_positions, outside_floats}
use Rattle.chain.proofs.ChainLocal.{Sized, chain_local, chain_steady}
use Rattle.chain.proofs.Accepts.{ClearOn, ready, orderly, clear_with, step_first, clear_stays}
use Rattle.chain.proofs.Running.{clear, leaves_is, rendered_is}

pub taken : (setup : Setup) (s : State Float Held) (order : List ℕ) → ClearOn setup s order → Taken setup s order
taken setup s order z = ap accepted_of (accepted_of_clear setup (length s.held.store) s.samples s.held.positions s.progress order z)

-- ---- demand 2
pub step_by_step : StepByStep
step_by_step setup s k order a t =
    let z = clear setup s (k ∷ order) t in
    let first = taken setup s (k ∷ []) (clear_with setup s (k ∷ order) (k ∷ []) z ((orderly setup s (k ∷ order) z).0, tt)) in
    let one = leaves_is setup s (k ∷ []) first in
    let others = taken setup (stepped setup k s) order (clear_stays setup s k order a z) in
    record {
      first = first;
      others = subst (λ (w : State Float Held). Taken setup w order) (sym one) others;
      same = leaves_is setup s (k ∷ order) t ∙ sym (step_first setup s k order a z order) ∙ sym (leaves_is setup (stepped setup k s) order others) ∙ ap (λ (w : State Float Held). leaves_of setup w order) (sym one);
      step_is = one;
    }

-- an order and its entries
pub entries_decide : EntriesDecide
entries_decide setup s order = record {
  empty = λ t. taken setup s [] (clear_with setup s order [] (clear setup s order t) tt);
  orderly = λ t. orderly setup s order (clear setup s order t);
  taken = λ t o. taken setup s order (clear_with setup s [] order (clear setup s [] t) o);
}

-- ---- demand 3: a step
module _ (setup : Setup) (s : State Float Held) (k : ℕ) (a : Arrays s) (t : Taken setup s (k ∷ [])) where
  abbrev C : Chain Float Held
  C = chain_of setup

  abbrev F : ℕ
  F = frames_of s.samples

  is_ready : Ready setup s
  is_ready = ready setup s (k ∷ []) a (clear setup s (k ∷ []) t)

  may : May setup s k
  may = (orderly setup s (k ∷ []) (clear setup s (k ∷ []) t)).0

  i≤e : top_at setup k ≤ top_at setup (suc k)
  i≤e = top_next setup k

  e≤c : top_at setup (suc k) ≤ used_of setup
  e≤c = top_le setup (suc k)

  fills : Sized setup k (out C F k s).held
  fills = (made C (Room setup) (Sized setup) (chain_local setup) F s k is_ready may).held

  keep_apart : OneStep setup k s (stepped setup k s)
  keep_apart =
      let w = one_step C (Room setup) (Sized setup) (chain_local setup) F s k is_ready may in
      let r = is_ready.held in
      record {
        frame = w.frame;
        samples = record { lengths = w.samples; before = w.before 0 (at s k * 2) (omega arith); after = w.after };
        held = ap (λ (h : Held). stretch setup (top_at setup k) (top_at setup (suc k)) h) w.held ∙ stretch_same setup s.held r (top_at setup k) (top_at setup (suc k)) i≤e e≤c (out C F k s).held fills;
        store = subst (λ (h : Held). Outside (start_of setup (top_at setup k)) (start_of setup (top_at setup (suc k))) s.held.store h.store) (sym w.held) (outside_store setup s.held r (top_at setup k) (top_at setup (suc k)) i≤e e≤c (out C F k s).held fills);
        positions = subst (λ (h : Held). Outside (place_positions * top_at setup k) (place_positions * top_at setup (suc k)) s.held.positions h.positions) (sym w.held) (outside_positions setup s.held r (top_at setup k) (top_at setup (suc k)) i≤e e≤c (out C F k s).held fills);
        floats = subst (λ (h : Held). Outside (place_floats * top_at setup k) (place_floats * top_at setup (suc k)) s.held.floats h.floats) (sym w.held) (outside_floats setup s.held r (top_at setup k) (top_at setup (suc k)) i≤e e≤c (out C F k s).held fills);
        moved = w.moved;
        others = w.others;
        falls = w.inv.falls;
      }

  keeps_apart : OneStep setup k s (leaves_of setup s (k ∷ []))
  keeps_apart = subst (OneStep setup k s) (sym (leaves_is setup s (k ∷ []) t)) keep_apart

pub steps_keep_apart : StepsKeepApart
steps_keep_apart = keeps_apart

-- what stage k makes depends on its next frame and on what it holds alone
same_out : (setup : Setup) (s t : State Float Held) (k : ℕ) → Alike setup k s t
    → out (chain_of setup) (frames_of s.samples) k s ≡ out (chain_of setup) (frames_of t.samples) k t
unfolding out
same_out setup s t k q =
    let m = moment (at t k) (frames_of t.samples) in
    chain_steady setup k (moment (at s k) (frames_of s.samples)) m (next_frame setup k s) (held_by setup k s)
    ∙ (λ i. (chain_of setup).make k m (q.frame i) (q.held i))

pub steps_stand_alone : StepsStandAlone
steps_stand_alone setup s t k a b u v q =
    let x = keeps_apart setup s k a u in
    let y = keeps_apart setup t k b v in
    let e = same_out setup s t k q in
    record { frame = x.frame ∙ ap (λ (o : Out Float Held). o.frame) e ∙ sym y.frame; held = x.held ∙ ap (λ (o : Out Float Held). o.held) e ∙ sym y.held }

-- any two orders
pub any_order : AnyOrder
any_order setup s xs ys a t u n =
    let z = clear setup s xs t in
    leaves_is setup s xs t
    ∙ orders_agree (chain_of setup) (Room setup) (Sized setup) (chain_local setup) (frames_of s.samples) xs ys s (ready setup s xs a z) (orderly setup s xs z) (orderly setup s ys (clear setup s ys u)) n
    ∙ sym (leaves_is setup s ys u)

-- ---- whole frame after whole frame
pub whole : (setup : Setup) (s : State Float Held) (order : List ℕ) → Finishing setup s order → Whole (chain_of setup) (frames_of s.samples) s order
whole setup s order f =
    record { fresh = f.fresh; finishes = record { accepted = orderly setup s order (clear setup s order f.taken); done = rw (leaves_is setup s order f.taken) at f.done } }

pub whole_frames_lem : WholeFrames
whole_frames_lem setup s order a f =
    let C = chain_of setup in
    let F : ℕ = frames_of s.samples in
    let z = clear setup s order f.taken in
    let v = ready setup s order a z in
    let r = frames_whole C (Room setup) (Sized setup) (chain_local setup) F s v f.fresh in
    let row = taken setup s (frames (tops_of setup) F) (clear_with setup s order (frames (tops_of setup) F) z r.finishes.accepted) in
    let leaves = leaves_is setup s order f.taken in
    record {
      taken = row;
      same = leaves ∙ frame_by_frame_lem C (Room setup) (Sized setup) (chain_local setup) F order s v (whole setup s order f) ∙ sym (leaves_is setup s (frames (tops_of setup) F) row);
      renders = ap (from 0) leaves ∙ order_renders C (Room setup) (Sized setup) (chain_local setup) F order s v (whole setup s order f);
    }

-- ---- and `render`
pub render_is_run : RenderIsRun
render_is_run setup s a t =
    let C = chain_of setup in
    let F : ℕ = frames_of s.samples in
    let order = order_to_end setup s in
    let z = clear setup s [] t in
    let v = ready setup s [] a z in
    let f = finishing_finishes C (Room setup) (Sized setup) (chain_local setup) F s v in
    let r = rendered_is setup s t in
    let u = taken setup s order (clear_with setup s [] order z f.accepted) in
    record {
      some = u;
      same = leaves_is setup s order u ∙ sym r;
      done = subst (λ (w : State Float Held). AllAt setup F w) (sym r) f.done;
      any = λ xs q d.
          let leaves = leaves_is setup s xs q in
          let g : Finishes C F s xs = record { accepted = orderly setup s xs (clear setup s xs q); done = subst (λ (w : State Float Held). AllAt setup F w) leaves d } in
          leaves ∙ leaves_finishing C (Room setup) (Sized setup) (chain_local setup) F xs s v g ∙ sym r;
    }

-- from nothing, `order_to_end` finishes
pub to_end_finishing : (setup : Setup) (s : State Float Held) → Arrays s → Taken setup s [] → AllAt setup 0 s → Finishing setup s (order_to_end setup s)
to_end_finishing setup s a t f = let r = render_is_run setup s a t in record { taken = r.some; fresh = f; done = rw r.same r.done }
