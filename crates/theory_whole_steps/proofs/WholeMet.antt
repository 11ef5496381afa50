-- Every accepted step is whole, as specs/WholeSteps.antt states it. Assumes nothing.
use Rattle.std.proofs.Common.{◌≡◌, refl, ap, sym, ◌∙◌, subst, List, [], ◌∷◌, ◌++◌, ℕ, zero, suc, ◌+◌, ◌*◌, ◌-◌, ◌≤◌, ◌<◌, arith, Float, length, take, drop, take_at, drop_at, length-take-le}
use native.Mathlib.Nat.{sub-zero}
use Rattle.frame.specs.declared.Frame.{Frame}
use Rattle.line.specs.Held.{Held, holds, front, back, joined, Ran, ran}
use Rattle.line.specs.Frames.{frame_at}
use Rattle.theory_order.specs.Stretch.{part, splice}
use Rattle.theory_order.specs.Chain.{State, at, step, put, out}
use Rattle.theory_order.proofs.Stretches.{length_part}
use Rattle.memories.specs.Sizes.{places, place_positions, place_floats}
use Rattle.stage.specs.declared.kind.Stage.{Stage}
use Rattle.stage.specs.declared.setup.Setup.{Setup}
use Rattle.stage.specs.Setup.{stage_at, used_of}
use Rattle.stage.specs.Listed.{list_from}
use Rattle.stage.proofs.Listed.{from_length}
use Rattle.line_layout.specs.Layout.{start_of, starts_of, needed_of}
use Rattle.stage_step.specs.Step.{process_at}
use Rattle.top_stages.specs.Tops.{top_at, tops_of}
use Rattle.top_stages.proofs.TopStages.{top_le}
use Rattle.theory_refusals.specs.TopStages.{NoneFaulty}
use Rattle.theory_refusals.proofs.Shapes.{ends_inside}
use Rattle.theory_steps.proofs.OnLines.{Good, good_front}
use Rattle.chain.specs.Chain.{stretch, replaced, chain_of, frames_of, stepped, Ready, May, out_of}
use Rattle.chain.specs.Run.{leaves_of}
use Rattle.chain.specs.Demands.{Arrays, Taken, next_frame, held_by}
use Rattle.chain.proofs.Accepts.{ClearOn, ready, orderly}
use Rattle.chain.proofs.Running.{clear, leaves_is}
use Rattle.chain.proofs.DemandsMet.{steps_keep_apart}
use Rattle.theory_effects.specs.Effects.{Effect, Effects, Spare, none, next, appended, how_many}
use Rattle.theory_effects.specs.Process.{process}
use Rattle.theory_effects.specs.Standing.{stages_in, stages_of, held_in, held_of, Full, AllFull}
use Rattle.theory_effects.proofs.Joined.{HeldSizes, joined_assoc}
use Rattle.theory_effects.proofs.Sized.{Stand, stand_parts, floats_in, start_after, SizesFor, sized_in, sized_of}
use Rattle.theory_effects.proofs.Kept.{stages_kept, full_kept}
use Rattle.theory_effects.proofs.Steps.{place_whole}
use Rattle.theory_effects.proofs.Depths.{four_levels}
use Rattle.theory_effects.proofs.Built.{parted}
use Rattle.theory_effects.proofs.Trees.{tree_of}
use Rattle.theory_whole_steps.specs.WholeSteps.{AllPlaces, stage_list, two_samples, StandFor, WholeStep, EffectsStand, StepsWhole, AmplitudesKnown}
use Rattle.theory_whole_steps.proofs.AmplitudesMet.{amplitudes_of}
use Rattle.theory_whole_steps.proofs.Places.{stand_listed, listed_are, stages_appended, held_appended, full_parts, full_appended, TopEffect, top_effect}

-- ---- a stretch in the middle

part_mid : {A : Type 0} (a b c : List A) (n m : ℕ) → length a ≡ n → length b ≡ m → part n m (a ++ (b ++ c)) ≡ b
part_mid a b c n m p q = rw (drop_at a (b ++ c) n p, take_at b c m q)

splice_mid : {A : Type 0} (a b c z : List A) (n : ℕ) → length a ≡ n → length z ≡ length b → splice n z (a ++ (b ++ c)) ≡ a ++ (z ++ c)
splice_mid a b c z n p q = rw (take_at a (b ++ c) n p, drop_at a (b ++ c) n p, drop_at b c (length z) (sym q))

module _ (setup : Setup) (i e : ℕ) (a b c : Held)
    (s : HeldSizes (start_of setup i) (place_positions * i) (place_floats * i) a)
    (t : HeldSizes (start_of setup e - start_of setup i) (place_positions * e - place_positions * i) (place_floats * e - place_floats * i) b) where
  stretch_mid : stretch setup i e (joined a (joined b c)) ≡ b
  unfolding stretch joined
  stretch_mid = λ k. record {
    store = part_mid a.store b.store c.store _ _ s.store t.store k;
    positions = part_mid a.positions b.positions c.positions _ _ s.positions t.positions k;
    floats = part_mid a.floats b.floats c.floats _ _ s.floats t.floats k;
  }

  replaced_mid : (z : Held) → HeldSizes (start_of setup e - start_of setup i) (place_positions * e - place_positions * i) (place_floats * e - place_floats * i) z → replaced setup i z (joined a (joined b c)) ≡ joined a (joined z c)
  unfolding replaced joined
  replaced_mid z u = λ k. record {
    store = splice_mid a.store b.store c.store z.store _ s.store (u.store ∙ sym t.store) k;
    positions = splice_mid a.positions b.positions c.positions z.positions _ s.positions (u.positions ∙ sym t.positions) k;
    floats = splice_mid a.floats b.floats c.floats z.floats _ s.floats (u.floats ∙ sym t.floats) k;
  }

-- ---- two samples are a frame

two_samples_lem : (xs : List Float) → length xs ≡ 2 → xs ≡ two_samples (frame_at 0 xs)
unfolding frame_at
two_samples_lem [] h = absurd (omega arith)
two_samples_lem (x ∷ []) h = absurd (omega arith)
two_samples_lem (x ∷ (y ∷ [])) h = refl
two_samples_lem (x ∷ (y ∷ (z ∷ xs))) h = absurd (omega arith)

-- ---- the effects of an accepted call

module _ (setup : Setup) (effects : Effects) (all : AllPlaces setup) (few : setup.count ≤ places) (e : stages_of effects ≡ stage_list setup) where
  stages_are : stages_of effects ≡ list_from (stage_at setup) 0 setup.count
  stages_are = e ∙ sym (listed_are setup setup.count (omega (arith, all)))

  stands : Stand setup (stages_of effects) 0
  stands = rw stages_are (stand_listed setup setup.count 0)

  many : length (stages_of effects) ≡ used_of setup
  many = ap length stages_are ∙ from_length (stage_at setup) 0 setup.count ∙ omega arith

start_zero : (setup : Setup) → start_of setup 0 ≡ 0
unfolding start_of
start_zero setup = refl

-- what the effects before list place i hold
sizes_before : (setup : Setup) (effects : Effects) (i : ℕ) → Stand setup (stages_of effects) 0 → AllFull setup.rate effects → i ≡ length (stages_of effects)
    → HeldSizes (start_of setup i) (place_positions * i) (place_floats * i) (held_of effects)
unfolding start_of
sizes_before setup effects i h full e =
    let z = sized_of setup.rate effects full in
    let n : i ≡ 0 + length (stages_of effects) = omega arith in
    let start = ap (start_of setup) n ∙ start_after setup (stages_of effects) 0 h in
    record { store = z.store ∙ omega arith; positions = z.positions ∙ omega arith; floats = z.floats ∙ omega arith }

-- what an effect at the list places from i up to e holds
sizes_at : (setup : Setup) (effect : Effect) (spare : Spare) (i e : ℕ) → Stand setup (stages_in effect) i → Full setup.rate effect spare → e ≡ i + length (stages_in effect)
    → HeldSizes (start_of setup e - start_of setup i) (place_positions * e - place_positions * i) (place_floats * e - place_floats * i) (held_in effect spare)
sizes_at setup effect spare i e h full q =
    let z = sized_in setup.rate effect spare full in
    let start = ap (start_of setup) q ∙ start_after setup (stages_in effect) i h in
    record { store = z.store ∙ omega arith; positions = z.positions ∙ omega arith; floats = z.floats ∙ omega arith }

-- effects with the same stages have as many floats of lines
same_store : (rate : ℕ) (a b : Effects) → AllFull rate a → AllFull rate b → stages_of a ≡ stages_of b → length (held_of a).store ≡ length (held_of b).store
same_store rate a b f g e = (sized_of rate a f).store ∙ ap (floats_in rate) e ∙ sym (sized_of rate b g).store

-- ---- a step of the effect of top stage k

module _ (setup : Setup) (effects : Effects) (past : Held) (k : ℕ) (t : TopEffect setup effects k) (full : AllFull setup.rate effects) (sound : NoneFaulty setup) (stand : Stand setup (stages_of effects) 0) where
  abbrev i : ℕ
  i = top_at setup k

  abbrev e : ℕ
  e = top_at setup (suc k)

  abbrev rest : Held
  rest = joined (held_of t.after) past

  -- all that is held, with the effect's own in the middle
  in_the_middle : (effect : Effect) → joined (held_of (appended t.before (next effect t.spare t.after))) past ≡ joined (held_of t.before) (joined (held_in effect t.spare) rest)
  unfolding held_of
  in_the_middle effect =
      ap (λ h. joined h past) (held_appended t.before (next effect t.spare t.after))
      ∙ joined_assoc (held_of t.before) (joined (held_in effect t.spare) (held_of t.after)) past
      ∙ ap (joined (held_of t.before)) (joined_assoc (held_in effect t.spare) (held_of t.after) past)

  before_stand : Stand setup (stages_of t.before) 0
  before_stand = (stand_parts setup (stages_of t.before) (stages_of (next t.effect t.spare t.after)) 0 (subst (λ stages. Stand setup stages 0) (ap stages_of t.parts ∙ stages_appended t.before (next t.effect t.spare t.after)) stand)).0

  before_full : AllFull setup.rate t.before
  before_full = (full_parts setup.rate t.before (next t.effect t.spare t.after) (subst (AllFull setup.rate) t.parts full)).0

  others_full : Full setup.rate t.effect t.spare × AllFull setup.rate t.after
  unfolding AllFull
  others_full = (full_parts setup.rate t.before (next t.effect t.spare t.after) (subst (AllFull setup.rate) t.parts full)).1

  -- the effect before or after the step, at the same places
  module _ (effect : Effect) (same : stages_in effect ≡ stages_in t.effect) (whole : Full setup.rate effect t.spare) where
    abbrev end_is : e ≡ i + length (stages_in effect)
    end_is = t.end ∙ omega (arith, t.place, ap length same)

    own_sizes : HeldSizes (start_of setup e - start_of setup i) (place_positions * e - place_positions * i) (place_floats * e - place_floats * i) (held_in effect t.spare)
    own_sizes = sizes_at setup effect t.spare i e (subst (λ stages. Stand setup stages i) (sym same) t.stands) whole end_is

  before_sizes : HeldSizes (start_of setup i) (place_positions * i) (place_floats * i) (held_of t.before)
  before_sizes = sizes_before setup t.before i before_stand before_full t.place

  all_is : joined (held_of effects) past ≡ joined (held_of t.before) (joined (held_in t.effect t.spare) rest)
  all_is = ap (λ (es : Effects). joined (held_of es) past) t.parts ∙ in_the_middle t.effect

  abbrev whole : Full setup.rate t.effect t.spare
  whole = others_full.0

  module _ (x : Frame) where
    made_of : process_at setup (starts_of setup) i e (ran x (stretch setup i e (joined (held_of effects) past))) ≡ ran (process t.effect x).0 (held_in (process t.effect x).1 t.spare)
    made_of =
        ap (λ (h : Held). process_at setup (starts_of setup) i e (ran x h)) (ap (stretch setup i e) all_is ∙ stretch_mid setup i e _ _ rest before_sizes (own_sizes t.effect refl whole))
        ∙ place_whole setup t.effect t.spare i e x t.stands (end_is t.effect refl whole) (omega (arith, top_le setup (suc k))) (four_levels setup sound t.effect i t.stands (omega (arith, end_is t.effect refl whole, top_le setup (suc k)))) whole

    left_of : replaced setup i (held_in (process t.effect x).1 t.spare) (joined (held_of effects) past) ≡ joined (held_of (appended t.before (next (process t.effect x).1 t.spare t.after))) past
    left_of =
        let after = (process t.effect x).1 in
        ap (replaced setup i (held_in after t.spare)) all_is
        ∙ replaced_mid setup i e _ _ rest before_sizes (own_sizes t.effect refl whole) (held_in after t.spare) (own_sizes after (stages_kept t.effect x) (full_kept setup.rate t.effect t.spare x whole))
        ∙ sym (in_the_middle after)

-- ---- every accepted step

pub steps_whole : StepsWhole
unfolding step put out stages_of AllFull
steps_whole setup s k effects past all a t st =
    let z = clear setup s (k ∷ []) t in
    let r = ready setup s (k ∷ []) a z in
    let may = (orderly setup s (k ∷ []) z).0 in
    let stand = stands setup effects all z.few st.stages in
    let u = top_effect setup effects stand (many setup effects all z.few st.stages) k may.inside in
    let x = frame_at 0 (next_frame setup k s) in
    let made = ap (λ (h : Held). process_at setup (starts_of setup) (top_at setup k) (top_at setup (suc k)) (ran x (stretch setup (top_at setup k) (top_at setup (suc k)) h))) st.held ∙ made_of setup effects past k u st.full z.shapes stand x in
    let after = (process u.effect x).1 in
    let others = others_full setup effects past k u st.full z.shapes stand in
    let then = appended u.before (next after u.spare u.after) in
    let stages : stages_of then ≡ stages_of effects =
    stages_appended u.before (next after u.spare u.after)
    ∙ ap (λ (stages : List Stage). stages_of u.before ++ (stages ++ stages_of u.after)) (stages_kept u.effect x)
    ∙ sym (stages_appended u.before (next u.effect u.spare u.after))
    ∙ sym (ap stages_of u.parts) in
    let full : AllFull setup.rate then =
    full_appended setup.rate u.before (next after u.spare u.after) (before_full setup effects past k u st.full z.shapes stand) (full_kept setup.rate u.effect u.spare x others.0, others.1) in
    record {
      before = u.before;
      effect = u.effect;
      spare = u.spare;
      after = u.after;
      parts = u.parts;
      number = u.number;
      input = x;
      given = two_samples_lem (next_frame setup k s) (length_part (at s k * 2) 2 s.samples (omega (arith, r.samples, may.room)));
      output = (steps_keep_apart setup s k a t).frame ∙ ap (λ (r : Ran). two_samples r.frame) made;
      held = record {
        stages = stages ∙ st.stages;
        full = full;
        held =
            ap (λ (z : State Float Held). z.held) (leaves_is setup s (k ∷ []) t)
            ∙ (λ j. replaced setup (top_at setup k) (made j).held (st.held j))
            ∙ left_of setup effects past k u st.full z.shapes stand x;
        needed = st.needed ∙ same_store setup.rate effects then st.full full (sym stages);
      };
    }

-- ---- and the effects of every accepted call

module _ (setup : Setup) (s : State Float Held) (a : Arrays s) (order : List ℕ) (z : ClearOn setup s order) where
  abbrev c : ℕ
  c = used_of setup

  abbrev lines : Held
  lines = front (needed_of setup) (place_positions * c) (place_floats * c) s.held

  lines_sizes : HeldSizes (start_of setup c - start_of setup 0) (place_positions * (c - 0)) (place_floats * (c - 0)) lines
  unfolding front
  lines_sizes = record {
    store = length-take-le (needed_of setup) s.held.store z.room ∙ omega (arith, start_zero setup);
    positions = length-take-le (place_positions * c) s.held.positions (omega (arith, a.positions)) ∙ omega arith;
    floats = length-take-le (place_floats * c) s.held.floats (omega (arith, a.floats)) ∙ omega arith;
  }

  -- each position is on its line
  lines_good : Good setup 0 c lines.positions
  unfolding front
  lines_good =
      let all : Good setup 0 c s.held.positions = λ j k from to on. rw sub-zero (z.found j k to on) in
      rw sub-zero at (good_front setup 0 c c s.held.positions (omega arith) all)

pub effects_stand : EffectsStand
effects_stand setup s order all a t =
    let z = clear setup s order t in
    let c = used_of setup in
    let tree = tree_of setup z.shapes 0 c (lines setup s a order z) (omega arith) (omega arith) (λ j from to. ends_inside setup z.shapes j to) (lines_sizes setup s a order z) (lines_good setup s a order z) in
    let used : c - 0 ≡ setup.count = omega (arith, z.few) in
    let past = back (needed_of setup) (place_positions * c) (place_floats * c) s.held in (
      tree.0,
      past,
      record {
        stages = tree.1 ∙ ap (list_from (stage_at setup) 0) used ∙ listed_are setup setup.count (omega (arith, all, z.few));
        full = tree.2;
        held = sym (parted (needed_of setup) (place_positions * c) (place_floats * c) s.held) ∙ ap (λ (h : Held). joined h past) (sym tree.3);
        needed = omega (arith, start_zero setup, (lines_sizes setup s a order z).store) ∙ ap (λ (h : Held). length h.store) (sym tree.3);
      },
    )

-- ---- and their amplitudes

pub amplitudes_known : AmplitudesKnown
amplitudes_known setup s order effects past all t st =
    let z = clear setup s order t in
    amplitudes_of setup (used_of setup) z.settings effects 0 (stands setup effects all z.few st.stages) (omega (arith, many setup effects all z.few st.stages))
