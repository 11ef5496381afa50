-- A step of the definitions is a frame through the effects: no guard is met. Assumes nothing.
-- The effects stand in the list of stages and in what is held, are whole, and are not deeper than the recursion goes.
use Rattle.std.proofs.Common.{◌≡◌, refl, ap, sym, ◌∙◌, List, [], ◌∷◌, ◌++◌, append-nil, ℕ, zero, suc, ◌+◌, ◌*◌, ◌-◌, ◌≤◌, arith, zero-add, suc-add, ℤ, Float, length, get_or, set, length-append, get_or-append-add, lt-ltb, le-ltb, le-leb}
use Rattle.std.specs.Float.{nan}
use Rattle.decibels.specs.Amplitude.{amplitude_of}
use Rattle.frame.specs.declared.Frame.{Frame}
use Rattle.frame.specs.Operations.{add_of, mul_of}
use Rattle.frame.specs.Mix.{mix_of}
use Rattle.integrators.specs.declared.Integrators.{Integrators}
use Rattle.integrators.specs.declared.Filtered.{Filtered}
use Rattle.filters.specs.Filter.{filter_of}
use Rattle.filters.specs.EqFilter.{eq_of}
use Rattle.line.specs.Held.{Held, holds, joined, Ran, ran}
use Rattle.line.specs.Frames.{frame_at, frame_in}
use Rattle.reverb_tuning.specs.Tuning.{comb_count}
use Rattle.memories.specs.Sizes.{places, place_positions, place_floats}
use Rattle.memories.specs.Kinds.{remembered, remember}
use Rattle.stage.specs.declared.kind.Stage.{Stage}
use Rattle.stage.specs.declared.setup.Setup.{Setup}
use Rattle.stage.specs.Holding.{holding_of, owned_of}
use Rattle.stage.specs.Setup.{stage_at, next_place}
use Rattle.stage.proofs.Next.{next_inside}
use Rattle.line_layout.specs.Layout.{starts_of, size_of}
use Rattle.line_layout.proofs.LineStarts.{starts_at}
use Rattle.stage_step.specs.Step.{remembering, delay_stage, stage_step, in_turn, span_of, step_of, process_at}
use Rattle.stage_step.proofs.Levels.{step_is, span_zero, span_shallow, span_is, place_is}
use Rattle.theory_effects.specs.Line.{Line, buffer, position, stored}
use Rattle.theory_effects.specs.Effects.{Spare, Effect, volume_control, panning_control, distortion, filter, eq_filter, reverb, delay, Effects, none, next}
use Rattle.theory_effects.specs.Process.{process, process_all}
use Rattle.theory_effects.specs.Standing.{stages_in, stages_of, side_by_side, memory_held, spare_held, held_in, held_of, FullPlace, Full, AllFull}
use Rattle.theory_effects.proofs.Joined.{HeldSizes, front_joined, back_joined}
use Rattle.theory_effects.proofs.Lines.{position_on, length_sides, frame_here, frame_stored}
use Rattle.theory_effects.proofs.Reverbs.{reverb_whole}
use Rattle.theory_effects.proofs.Sized.{Stand, stand_parts, floats_in, start_after, sized_in}
use Rattle.theory_effects.proofs.Deep.{deep_in, deep, some_level}

-- ---- a filter or an EQ

set_append_add : {A : Type 0} (p ys : List A) (j : ℕ) (v : A) → set (p ++ ys) (length p + j) v ≡ p ++ set ys j v
set_append_add [] ys j v = ap (λ k. set ys k v) (zero-add j)
set_append_add {A} (x ∷ p) ys j v = ap (λ k. set (x ∷ (p ++ ys)) k v) (suc-add (length p) j) ∙ ap {B = List A} (λ r. x ∷ r) (set_append_add p ys j v)

set_past : {A : Type 0} (p ys : List A) (n j : ℕ) (v : A) → length p ≡ n → set (p ++ ys) (n + j) v ≡ p ++ set ys j v
set_past p ys n j v e = ap (λ m. set (p ++ ys) (m + j) v) (sym e) ∙ set_append_add p ys j v

get_d_past : {A : Type 0} (p ys : List A) (n j : ℕ) (d : A) → length p ≡ n → get_or (p ++ ys) (n + j) d ≡ get_or ys j d
get_d_past p ys n j d e = ap (λ m. get_or (p ++ ys) (m + j) d) (sym e) ∙ get_or-append-add p ys j d

-- the two frames as floats
abbrev four : Integrators → List Float
four memory = memory.ic1eq.left ∷ (memory.ic1eq.right ∷ (memory.ic2eq.left ∷ (memory.ic2eq.right ∷ [])))

module _ (p : List Float) (e : length p ≡ comb_count) (memory : Integrators) where
  recalled : remembered (p ++ four memory) ≡ memory
  unfolding remembered frame_at
  recalled = λ t. record {
    ic1eq = record { left = get_d_past p (four memory) comb_count 0 nan e t; right = get_d_past p (four memory) comb_count 1 nan e t };
    ic2eq = record { left = get_d_past p (four memory) comb_count 2 nan e t; right = get_d_past p (four memory) comb_count 3 nan e t };
  }

  retained : (before : Integrators) → remember memory (p ++ four before) ≡ p ++ four memory
  unfolding remember frame_in
  retained before = rw (set_past p _ comb_count 0 _ e, set_past p _ comb_count 1 _ e, set_past p _ comb_count 2 _ e, set_past p _ comb_count 3 _ e)

remembering_whole : (f : Integrators → Frame → Filtered) (memory : Integrators) (spare : Spare) (x : Frame) → FullPlace 0 4 spare
    → remembering f (ran x (joined (spare_held spare) (memory_held memory))) ≡ ran (f memory x).output (joined (spare_held spare) (memory_held (f memory x).after))
unfolding remembering joined memory_held side_by_side
remembering_whole f memory spare x full =
    let e : length spare.floats ≡ comb_count = omega (arith, full.floats_are) in
    rw (recalled spare.floats e memory, retained spare.floats e (f memory x).after memory)

-- ---- a delay

-- what a delay holds besides its feedback effects
abbrev own : Spare → Line Frame → Held
own spare l = holds (side_by_side (buffer l)) (position l ∷ spare.positions) spare.floats

own_is : (spare : Spare) (l : Line Frame) → joined (holds (side_by_side (buffer l)) (position l ∷ []) []) (spare_held spare) ≡ own spare l
unfolding joined
own_is spare l = λ t. record { store = append-nil (side_by_side (buffer l)) t; positions = position l ∷ spare.positions; floats = spare.floats }

module _ (feedback : ℤ) (mix : Float) (l : Line Frame) (spare : Spare) (full : FullPlace 1 0 spare) (rest after : Held) (inner : Ran → Ran) (x y : Frame) (e : inner (ran l.here rest) ≡ ran y after) where
  abbrev wet : Frame
  wet = mul_of y (amplitude_of feedback)

  own_sizes : HeldSizes (2 * length (buffer l)) place_positions place_floats (own spare l)
  own_sizes = record { store = length_sides (buffer l); positions = omega (arith, full.positions_are); floats = omega (arith, full.floats_are) }

  delay_own : delay_stage (length (buffer l)) feedback mix inner (ran x (joined (own spare l) rest)) ≡ ran (mix_of wet x mix) (joined (own spare (stored (add_of x wet) l)) after)
  unfolding delay_stage
  delay_own = rw (front_joined (own spare l) rest _ _ _ own_sizes, back_joined (own spare l) rest _ _ _ own_sizes, frame_here l, e, frame_stored (add_of x wet) l, position_on (add_of x wet) l)

  delay_whole : delay_stage (length (buffer l)) feedback mix inner (ran x (joined (joined (holds (side_by_side (buffer l)) (position l ∷ []) []) (spare_held spare)) rest))
      ≡ ran (mix_of wet x mix) (joined (joined (holds (side_by_side (buffer (stored (add_of x wet) l))) (position (stored (add_of x wet) l) ∷ []) []) (spare_held spare)) after)
  delay_whole = rw (own_is spare l, own_is spare (stored (add_of x wet) l)) delay_own

-- ---- stages one after another

-- two parts in turn, each on its own
turn_whole : (n m : ℕ) (f g : Ran → Ran) (x y z : Frame) (a b a' b' : Held) → HeldSizes n (place_positions * m) (place_floats * m) a
    → f (ran x a) ≡ ran y a' → g (ran y b) ≡ ran z b' → in_turn n m f g (ran x (joined a b)) ≡ ran z (joined a' b')
unfolding in_turn
turn_whole n m f g x y z a b a' b' s p q = rw (front_joined a b _ _ _ s, back_joined a b _ _ _ s, p, q)

-- an effect's own stage, and those that this owns
pub first_stage : (effect : Effect) → (s : Stage) × (owned : List Stage) × (stages_in effect ≡ s ∷ owned) × (owned_of s ≡ length owned)
unfolding stages_in holding_of
first_stage (volume_control volume) = (_, [], refl, refl)
first_stage (panning_control panning) = (_, [], refl, refl)
first_stage (distortion kind drive mix) = (_, [], refl, refl)
first_stage (filter mode g resonance mix memory) = (_, [], refl, refl)
first_stage (eq_filter kind g gain q memory) = (_, [], refl, refl)
first_stage (reverb feedback damping width mix left right) = (_, [], refl, refl)
first_stage (delay feedback mix line effects) = (_, stages_of effects, refl, refl)

module _ (setup : Setup) where
  -- the place after an effect and all inside it: `next_place` does not clamp
  pub next_is : (effect : Effect) (i e : ℕ) → Stand setup (stages_in effect) i → i + length (stages_in effect) ≤ e → next_place (stage_at setup i) i e ≡ i + length (stages_in effect)
  next_is effect i e h g =
      let f = first_stage effect in
      let at : stage_at setup i ≡ f.0 = (rw f.2 at h).0 in
      let size : length (stages_in effect) ≡ 1 + owned_of (stage_at setup i) = ap length f.2 ∙ omega (arith, f.3, ap (λ (s : Stage). owned_of s) at) in
      next_inside (stage_at setup i) i e (omega arith) ∙ omega arith

  -- the floats of an effect's lines, by the list of starts
  lines_are : (starts : List ℕ) (stages : List Stage) (i : ℕ) → starts ≡ starts_of setup → Stand setup stages i → i + length stages ≤ places → size_of starts i (i + length stages) ≡ floats_in setup.rate stages
  unfolding size_of
  lines_are starts stages i e h g = omega (arith, starts_at setup e i (omega arith), starts_at setup e (i + length stages) g, start_after setup stages i h)

  module _ (starts : List ℕ) (known : starts ≡ starts_of setup) where
    span_none : (n depth i : ℕ) (r : Ran) → span_of n depth setup starts i i r ≡ r
    span_none zero depth i r = rw span_zero
    span_none (suc n) zero i r = rw span_shallow
    span_none (suc n) (suc depth) i r = rw (span_is, le-ltb i i (omega arith))

    step_by : (s : Stage) (n depth i e : ℕ) (r : Ran) → stage_at setup i ≡ s → step_of n depth setup starts i e r ≡ stage_step setup.rate (span_of n depth setup starts (i + 1) e) s r
    step_by s n depth i e r q = step_is setup starts i e r n depth ∙ ap (λ (s : Stage). stage_step setup.rate (span_of n depth setup starts (i + 1) e) s r) q

    -- an effect, and then others
    span_next : (effect : Effect) (spare : Spare) (n depth i e : ℕ) (x y z : Frame) (rest own' rest' : Held) → Stand setup (stages_in effect) i → i + length (stages_in effect) ≤ e → e ≤ places → Full setup.rate effect spare
        → step_of n depth setup starts i (i + length (stages_in effect)) (ran x (held_in effect spare)) ≡ ran y own'
        → span_of n (suc depth) setup starts (i + length (stages_in effect)) e (ran y rest) ≡ ran z rest'
        → span_of (suc n) (suc depth) setup starts i e (ran x (joined (held_in effect spare) rest)) ≡ ran z (joined own' rest')
    span_next effect spare n depth i e x y z rest own' rest' h le g full p q =
        let m = length (stages_in effect) in
        let some : 1 ≤ m = omega (arith, ap length (first_stage effect).2) in
        let count : i + m - i ≡ m = omega arith in
        let size : size_of starts i (i + m) ≡ floats_in setup.rate (stages_in effect) = lines_are starts (stages_in effect) i known h (omega arith) in
        rw (span_is, lt-ltb i e (omega arith), next_is effect i e h le, count, size)
        (turn_whole _ _ _ _ x y z _ rest own' rest' (sized_in setup.rate effect spare full) p q)

    mutual
      unfolding stages_in Full deep process held_in stage_step

      pub step_whole : (effect : Effect) (spare : Spare) (n depth i e : ℕ) (x : Frame) → Stand setup (stages_in effect) i → e ≡ i + length (stages_in effect) → e ≤ places → length (stages_in effect) ≤ suc n → deep_in effect ≤ suc depth → Full setup.rate effect spare
          → step_of n depth setup starts i e (ran x (held_in effect spare)) ≡ ran (process effect x).0 (held_in (process effect x).1 spare)
      step_whole (volume_control volume) spare n depth i e x h q g few shallow full = step_by _ n depth i e _ h.0
      step_whole (panning_control panning) spare n depth i e x h q g few shallow full = step_by _ n depth i e _ h.0
      step_whole (distortion kind drive mix) spare n depth i e x h q g few shallow full = step_by _ n depth i e _ h.0
      step_whole (filter mode tan resonance mix memory) spare n depth i e x h q g few shallow full = step_by _ n depth i e _ h.0 ∙ remembering_whole (filter_of mode tan resonance mix) memory spare x full
      step_whole (eq_filter kind tan gain sharp memory) spare n depth i e x h q g few shallow full = step_by _ n depth i e _ h.0 ∙ remembering_whole (eq_of kind tan sharp gain) memory spare x full
      step_whole (reverb feedback damping width mix left right) spare n depth i e x h q g few shallow full = step_by _ n depth i e _ h.0 ∙ reverb_whole setup.rate feedback damping width mix left right spare full x
      step_whole (delay feedback mix line effects) spare n depth i e x h q g few shallow full =
          step_by _ n depth i e _ h.0
          ∙ delay_whole feedback mix line spare full.0 (held_of effects) _ (span_of n depth setup starts (i + 1) e) x _ (span_whole effects n depth (i + 1) e line.here h.1 (omega arith) g (omega arith) (omega arith) full.1)

      pub span_whole : (effects : Effects) (n depth i e : ℕ) (x : Frame) → Stand setup (stages_of effects) i → e ≡ i + length (stages_of effects) → e ≤ places → length (stages_of effects) ≤ n → deep effects ≤ depth → AllFull setup.rate effects
          → span_of n depth setup starts i e (ran x (held_of effects)) ≡ ran (process_all effects x).0 (held_of (process_all effects x).1)
      span_whole none n depth i e x h q g few shallow full = let z : e ≡ i = omega arith in rw z (span_none n depth i _)
      span_whole (next effect spare effects) zero depth i e x h q g few shallow full =
          absurd (omega (arith, length-append (stages_in effect) (stages_of effects), ap length (first_stage effect).2))
      span_whole (next effect spare effects) (suc n) zero i e x h q g few shallow full = absurd (omega (arith, some_level effect))
      span_whole (next effect spare effects) (suc n) (suc depth) i e x h q g few shallow full =
          let parts = stand_parts setup (stages_in effect) (stages_of effects) i h in
          let both = length-append (stages_in effect) (stages_of effects) in
          let some : 1 ≤ length (stages_in effect) = omega (arith, ap length (first_stage effect).2) in
          span_next effect spare n depth i e x _ _ (held_of effects) _ _ parts.0 (omega arith) g full.0
          (step_whole effect spare n depth i (i + length (stages_in effect)) x parts.0 refl (omega arith) (omega arith) (omega arith) full.0)
          (span_whole effects n (suc depth) (i + length (stages_in effect)) e (process effect x).0 parts.1 (omega arith) g (omega arith) (omega arith) full.1)

  -- a step of an effect at a list place, with all inside it; four levels, depths 0 to 3, are all run
  pub place_whole : (effect : Effect) (spare : Spare) (i e : ℕ) (x : Frame) → Stand setup (stages_in effect) i → e ≡ i + length (stages_in effect) → e ≤ places → deep_in effect ≤ 4 → Full setup.rate effect spare
      → process_at setup (starts_of setup) i e (ran x (held_in effect spare)) ≡ ran (process effect x).0 (held_in (process effect x).1 spare)
  place_whole effect spare i e x h q g shallow full =
      let some : 1 ≤ length (stages_in effect) = omega (arith, ap length (first_stage effect).2) in
      rw (place_is, lt-ltb i e (omega arith), le-leb e places g) (step_whole (starts_of setup) refl effect spare places 3 i e x h q g (omega arith) shallow full)
