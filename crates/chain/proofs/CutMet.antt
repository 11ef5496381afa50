-- Demand 3's last sentence: a block may be cut at any frame, both parts are accepted, and `render` shows no cut. Assumes nothing.
use Rattle.std.proofs.Common.{◌≡◌, refl, sym, ap, ◌∙◌, subst, List, [], ◌++◌, append-nil, ℕ, ◌+◌, ◌*◌, ◌%◌, ◌≤◌, ◌<◌, zero-add, arith, Float, length, get_or, replicate, length-append, get_or-append-add}
use Rattle.std.specs.Float.{nan}
use lib.ListN.{get_or-append, get_or-replicate}
use Rattle.float.specs.Finite.{finite_of}
use Rattle.line.specs.Held.{Held}
use Rattle.theory_order.specs.Chain.{State}
use Rattle.theory_order.specs.Claims.{begin, Cut}
use Rattle.theory_order.proofs.Cuts.{cut_parts}
use Rattle.memories.specs.Sizes.{places}
use Rattle.stage.specs.declared.setup.Setup.{Setup}
use Rattle.top_stages.specs.Tops.{tops_of}
use Rattle.top_stages.proofs.TopStages.{tops_few}
use Rattle.refusals.proofs.Unrun.{unrun_most}
use Rattle.chain.specs.Chain.{Room, chain_of, frames_of}
use Rattle.chain.specs.Run.{leaves_of, order_to_end}
use Rattle.chain.specs.Demands.{Arrays, AllAt, Finishing, second_part, CutAt, CutAnywhere, RenderCut, RenderCutAnywhere}
use Rattle.chain.proofs.ChainLocal.{Sized, chain_local, chain_steady}
use Rattle.chain.proofs.Accepts.{ClearOn, ready, clear_after}
use Rattle.chain.proofs.Running.{clear, leaves_is}
use Rattle.chain.proofs.DemandsMet.{taken, entries_decide, whole, render_is_run, to_end_finishing}

module _ (setup : Setup) where
  -- an unstarted block with the samples of part of a clear one, and with lines and memories of a clear one, is clear
  part_clear : (s r z : State Float Held) → ClearOn setup s [] → AllAt setup 0 s → ClearOn setup r [] → AllAt setup 0 z → z.held ≡ r.held
      → length z.samples % 2 ≡ 0 → length z.samples ≤ length s.samples
      → (d : ℕ) → d + length z.samples ≤ length s.samples → ((i : ℕ) → i < length z.samples → get_or z.samples i nan ≡ get_or s.samples (d + i) nan)
      → ClearOn setup z []
  part_clear s r z cs fs cr fz e even short d fits same = record {
    slow = cs.slow;
    fast = cs.fast;
    few = cs.few;
    shapes = cs.shapes;
    settings = cs.settings;
    room = rw e cr.room;
    found = rw e cr.found;
    even = even;
    short = omega (arith, cs.short);
    within = λ k h. omega (arith, fz k h);
    falls = λ k h g. omega (arith, fz k h);
    finite = λ i h g. ap finite_of (same i g) ∙ cs.finite (d + i) (omega (arith, unrun_most (tops_of setup) s.progress 0 (λ q. omega (arith, fs 0 q)))) (omega arith);
    runs = tt;
  }

-- what is left is the same, said of other names for it
cut_same : {r q r₁ q₁ r₂ q₂ : State Float Held} → r ≡ q → r₁ ≡ q₁ → r₂ ≡ q₂ → Cut r r₁ r₂ → Cut q q₁ q₂
cut_same e e₁ e₂ cut = rw (← e, ← e₁, ← e₂) cut

-- ---- a block s of xs and ys, which the order e finishes, cut after xs: both parts are clear
module _ (setup : Setup) (n : ℕ) (xs ys : List Float) (h : Held) (p p₁ p₂ e : List ℕ) (k : length xs ≡ n * 2)
    (ar : Arrays (begin (xs ++ ys) h p)) (l₁ : length p₁ ≡ places) (l₂ : length p₂ ≡ places)
    (fresh₁ : AllAt setup 0 (begin xs h p₁)) (fresh₂ : AllAt setup 0 (begin ys h p₂)) (fe : Finishing setup (begin (xs ++ ys) h p) e) where
  abbrev s : State Float Held
  s = begin (xs ++ ys) h p

  abbrev s₁ : State Float Held
  s₁ = begin xs h p₁

  whole_clear : ClearOn setup s []
  whole_clear = clear setup s [] ((entries_decide setup s e).empty fe.taken)

  long : length (xs ++ ys) ≡ n * 2 + length ys
  long = length-append xs ys ∙ ap (λ (m : ℕ). m + length ys) k

  even : length (xs ++ ys) % 2 ≡ 0
  even = whole_clear.even

  first_clear : ClearOn setup s₁ []
  first_clear = part_clear setup s s s₁ whole_clear fe.fresh whole_clear fresh₁ refl (omega arith) (omega (arith, long)) 0 (omega (arith, long)) (λ i g. sym (ap (λ (m : ℕ). get_or (xs ++ ys) m nan) (zero-add i) ∙ get_or-append xs ys nan i g))

  first_arrays : Arrays s₁
  first_arrays = record { positions = ar.positions; floats = ar.floats; progress = l₁ }

  -- the second part begins with what an order left of the first
  module _ (a : List ℕ) (fa : Finishing setup s₁ a) where
    abbrev r : State Float Held
    r = leaves_of setup s₁ a

    abbrev s₂ : State Float Held
    s₂ = second_part setup s₁ a ys p₂

    after : Arrays r × ClearOn setup r []
    after =
        rw (leaves_is setup s₁ a fa.taken)
        (clear_after setup a [] s₁ first_arrays (rw append-nil (clear setup s₁ a fa.taken)))

    second_clear : ClearOn setup s₂ []
    second_clear = part_clear setup s r s₂ whole_clear fe.fresh after.1 fresh₂ refl (omega (arith, long, even)) (omega (arith, long)) (n * 2) (omega (arith, long)) (λ i g. sym (ap (λ (m : ℕ). get_or (xs ++ ys) (m + i) nan) (sym k) ∙ get_or-append-add xs ys i nan))

    second_arrays : Arrays s₂
    second_arrays = record { positions = after.0.positions; floats = after.0.floats; progress = l₂ }

    -- and three orders that finish leave the same
    parts : (b : List ℕ) → Finishing setup s₂ b → Cut (leaves_of setup s e) (leaves_of setup s₁ a) (leaves_of setup s₂ b)
    parts b fb =
        let f : length xs ≡ frames_of xs * 2 = omega arith in
        let g : frames_of (xs ++ ys) ≡ frames_of xs + frames_of ys = rw (long, k) (omega arith) in
        let first = leaves_is setup s₁ a fa.taken in
        cut_same (sym (leaves_is setup s e fe.taken)) (sym first) (sym (leaves_is setup s₂ b fb.taken))
        (rw g
        (cut_parts (chain_of setup) (Room setup) (Sized setup) (chain_local setup) (chain_steady setup) (frames_of xs) (frames_of ys) s s₁ s₂ e a b f refl refl (ap (λ (w : State Float Held). w.held) first)
        (rw g at (ready setup s [] ar whole_clear)) (rw g at (whole setup s e fe))
        (ready setup s₁ [] first_arrays first_clear) (whole setup s₁ a fa)
        (ready setup s₂ [] second_arrays second_clear) (whole setup s₂ b fb)))

  cut_at : CutAt setup (leaves_of setup s e) s₁ ys p₂
  cut_at = record {
    first_taken = taken setup s₁ [] first_clear;
    second_taken = λ a fa. taken setup (second_part setup s₁ a ys p₂) [] (second_clear a fa);
    same = λ a b fa fb. parts a fa b fb;
  }

pub cut_anywhere : CutAnywhere
cut_anywhere = cut_at

-- ---- rendered, from progress zero

pub render_cut_anywhere : RenderCutAnywhere
render_cut_anywhere setup n xs ys h p k ar fresh t =
    let zero : List ℕ = replicate places 0 in
    let s = begin (xs ++ ys) h p in
    let s₁ = begin xs h zero in
    let e = order_to_end setup s in
    let a = order_to_end setup s₁ in
    let none : AllAt setup 0 s₁ = λ j q. get_or-replicate places j 0 0 (omega (arith, tops_few setup)) in
    let fe = to_end_finishing setup s ar t fresh in
    let cut = cut_anywhere setup n xs ys h p zero zero e k ar refl refl none none fe in
    let a₁ = first_arrays setup n xs ys h p zero zero e k ar refl refl none none fe in
    let t₁ = cut.first_taken in
    let fa = to_end_finishing setup s₁ a₁ t₁ none in
    let s₂ = second_part setup s₁ a ys zero in
    let a₂ = second_arrays setup n xs ys h p zero zero e k ar refl refl none none fe a fa in
    let t₂ = cut.second_taken a fa in
    let fb = to_end_finishing setup s₂ a₂ t₂ none in
    let first = (render_is_run setup s₁ a₁ t₁).same in
    subst (λ (x : Held). RenderCut setup s s₁ (begin ys x zero)) (ap (λ (w : State Float Held). w.held) first)
    (record {
      first_taken = t₁;
      second_taken = t₂;
      same = cut_same (render_is_run setup s ar t).same first (render_is_run setup s₂ a₂ t₂).same (cut.same a (order_to_end setup s₂) fa fb);
    })
