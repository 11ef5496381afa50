-- What belongs to no stage never changes, as specs/Past.antt states it: no step changes it, so no order does. Assumes nothing.
use Rattle.std.proofs.Common.{◌≡◌, refl, sym, ap, ◌∙◌, Bool, true, false, List, [], ◌∷◌, ℕ, suc, ◌+◌, ◌-◌, ◌*◌, ◌≤◌, arith, eqb-true, Float, length, drop, replicate, length-set, length-append, length-drop, drop-drop, drop_at, drop-set-lt}
use lib.ListN.{length-replicate}
use Rattle.line.specs.Held.{Held}
use Rattle.theory_order.specs.Chain.{State, at, step, put}
use Rattle.memories.specs.Sizes.{place_positions, place_floats}
use Rattle.stage.specs.declared.setup.Setup.{Setup}
use Rattle.stage.specs.Setup.{used_of}
use Rattle.line_layout.specs.Layout.{needed_of}
use Rattle.line_layout.proofs.LineStarts.{start_le}
use Rattle.answer.specs.Answer.{number_of, accepted_of}
use Rattle.answer.proofs.Numbered.{accepted_numbered}
use Rattle.refusals.specs.Refusals.{chain_answer}
use Rattle.top_stages.specs.Tops.{top_at, tops_of}
use Rattle.top_stages.proofs.TopStages.{top_le}
use Rattle.fresh_start.specs.Start.{started_of}
use Rattle.chain.specs.Chain.{stepped}
use Rattle.chain.specs.Run.{answer_on, leaves_of, order_to_end, rendered_of}
use Rattle.chain.specs.Demands.{Arrays, Outside, Taken}
use Rattle.chain.specs.Table.{plus_zero}
use Rattle.chain.specs.Past.{PastKept, PastStays}
use Rattle.chain.proofs.Running.{leaves_is, leaves_not, rendered_not}
use Rattle.chain.proofs.DemandsMet.{step_by_step, entries_decide, steps_keep_apart, render_is_run}
use Rattle.chain.proofs.TableMet.{starts_tabled}

-- ---- lists that are the same from a place on

module _ {A : Type 0} where
  past_same : {e : ℕ} {xs : List A} → Outside 0 e xs xs
  past_same = record { lengths = refl; before = refl; after = refl }

  past_then : {e : ℕ} {xs ys zs : List A} → Outside 0 e xs ys → Outside 0 e ys zs → Outside 0 e xs zs
  past_then p q = record { lengths = q.lengths ∙ p.lengths; before = refl; after = q.after ∙ p.after }

  -- and so from a later place on
  past_later : {a e : ℕ} {xs zs : List A} (g : ℕ) → e ≤ g → Outside a e xs zs → Outside 0 g xs zs
  past_later {a} {e} {xs} {zs} g h o = record { lengths = o.lengths; before = refl; after = later zs ∙ ap (drop (g - e)) o.after ∙ sym (later xs) }
    where
      later : (l : List A) → drop g l ≡ drop (g - e) (drop e l)
      later l = let k : e + (g - e) ≡ g = omega arith in sym (drop-drop (g - e) e l ∙ ap (λ (n : ℕ). drop n l) k)

module _ (setup : Setup) where
  -- ---- what belongs to no stage

  kept_same : (s : State Float Held) → PastKept setup s s
  kept_same s = record { samples = refl; store = past_same; positions = past_same; floats = past_same; progress = past_same }

  kept_then : {s t z : State Float Held} → PastKept setup s t → PastKept setup t z → PastKept setup s z
  kept_then p q = record {
    samples = q.samples ∙ p.samples;
    store = past_then p.store q.store;
    positions = past_then p.positions q.positions;
    floats = past_then p.floats q.floats;
    progress = past_then p.progress q.progress;
  }

  kept_arrays : {s z : State Float Held} → PastKept setup s z → Arrays s → Arrays z
  kept_arrays p a = record { positions = p.positions.lengths ∙ a.positions; floats = p.floats.lengths ∙ a.floats; progress = p.progress.lengths ∙ a.progress }

  -- ---- a step, an order, and rendering

  progress_past : (s : State Float Held) (k : ℕ) → suc k ≤ tops_of setup → Outside 0 (tops_of setup) s.progress (stepped setup k s).progress
  unfolding step put
  progress_past s k h = record { lengths = length-set s.progress k (suc (at s k)); before = refl; after = drop-set-lt (tops_of setup) s.progress k (suc (at s k)) h }

  past_step : (s : State Float Held) (k : ℕ) → Arrays s → Taken setup s (k ∷ []) → PastKept setup s (leaves_of setup s (k ∷ []))
  past_step s k a t =
      let o = steps_keep_apart setup s k a t in
      let e : top_at setup (suc k) ≤ used_of setup = top_le setup (suc k) in
      record {
        samples = o.samples.lengths;
        store = past_later (needed_of setup) (start_le setup (top_at setup (suc k)) (used_of setup) e) o.store;
        positions = past_later (place_positions * used_of setup) (omega arith) o.positions;
        floats = past_later (place_floats * used_of setup) (omega arith) o.floats;
        progress = rw (leaves_is setup s (k ∷ []) t) (progress_past s k ((entries_decide setup s (k ∷ [])).orderly t).0.inside);
      }

  past_order : (order : List ℕ) (s : State Float Held) → Arrays s → Taken setup s order → PastKept setup s (leaves_of setup s order)
  past_order [] s a t = rw (leaves_is setup s [] t) (kept_same s)
  past_order (k ∷ order) s a t =
      let q = step_by_step setup s k order a t in
      let one = past_step s k a q.first in
      rw q.same (kept_then one (past_order order (leaves_of setup s (k ∷ [])) (kept_arrays one a) q.others))

  past_run : (s : State Float Held) (order : List ℕ) → Arrays s → (b : Bool) → accepted_of (answer_on setup s order) ≡ b → PastKept setup s (leaves_of setup s order)
  past_run s order a true t = past_order order s a t
  past_run s order a false t = rw (leaves_not setup s order t) (kept_same s)

  past_render : (s : State Float Held) → Arrays s → (b : Bool) → accepted_of (answer_on setup s []) ≡ b → PastKept setup s (rendered_of setup s)
  past_render s a true t =
      let r = render_is_run setup s a t in
      rw r.same at (past_order (order_to_end setup s) s a r.some)
  past_render s a false t = rw (rendered_not setup s t) (kept_same s)

  -- ---- a start

  past_start : (store : List Float) (b : Bool) → accepted_of (chain_answer setup (needed_of setup) (length store)) ≡ b → Outside 0 (needed_of setup) store (started_of setup store)
  past_start store true t =
      let n : ℕ = needed_of setup in
      let table = starts_tabled setup store in
      let answer = chain_answer setup n (length store) in
      let rows = table.answer.clear (eqb-true (number_of answer) 0 (sym (accepted_numbered answer) ∙ t)) in
      let room : n ≤ length store = omega (arith, rows.1.1.1.1.0) in
      rw (table.cleared t) (record {
        lengths = simp (length-append, length-replicate, length-drop) (omega arith);
        before = refl;
        after = drop_at (replicate n plus_zero) (drop n store) n (length-replicate n plus_zero);
      })
  past_start store false t = rw ((starts_tabled setup store).unchanged t) past_same

pub past_stays : PastStays
past_stays setup s a = record {
  run = λ order. past_run setup s order a (accepted_of (answer_on setup s order)) refl;
  render = past_render setup s a (accepted_of (answer_on setup s [])) refl;
  start = past_start setup s.held.store (accepted_of (chain_answer setup (needed_of setup) (length s.held.store))) refl;
}
