-- Every list of stages without a faulty one is the list of a tree of effects, which hold all that the stages hold. Assumes nothing.
use Rattle.std.proofs.Common.{◌≡◌, refl, ap, sym, ◌∙◌, [], ◌∷◌, ◌++◌, ℕ, zero, suc, ◌+◌, ◌*◌, ◌-◌, ◌≤◌, ◌<◌, arith, length, length-append}
use native.Mathlib.Decide.{dec_lt}
use Rattle.line.specs.Held.{Held, front, back, joined}
use Rattle.memories.specs.Sizes.{place_positions, place_floats}
use Rattle.stage.specs.declared.kind.Stage.{Stage}
use Rattle.stage.specs.declared.kind.Stage.TheVariants.{VolumeControl, PanningControl, Distortion, Filter, EqFilter, Reverb, Delay}
use Rattle.stage.specs.declared.setup.Setup.{Setup}
use Rattle.stage.specs.Holding.{holding_of, owned_of}
use Rattle.stage.specs.Setup.{stage_at, used_of}
use Rattle.stage.specs.Listed.{list_from}
use Rattle.stage.proofs.Listed.{from_length, from_parts}
use Rattle.line_layout.specs.Lines.{lengths_of, element_floats, lines_of, floats_of}
use Rattle.line_layout.specs.Layout.{start_of}
use Rattle.line_layout.proofs.LineStarts.{start_le}
use Rattle.refusals.specs.Shape.{last_of}
use Rattle.theory_refusals.specs.TopStages.{NoneFaulty}
use Rattle.theory_refusals.proofs.Shapes.{owned_whole}
use Rattle.theory_steps.proofs.Moved.{OnLines}
use Rattle.theory_steps.proofs.OnLines.{Good, good_front, good_back}
use Rattle.theory_effects.specs.Effects.{Spare, Effect, volume_control, panning_control, distortion, filter, eq_filter, reverb, delay, Effects, none, next}
use Rattle.theory_effects.specs.Standing.{stages_in, stages_of, held_in, held_of, Full, AllFull}
use Rattle.theory_effects.proofs.Joined.{HeldSizes, joined_none, joined_assoc}
use Rattle.theory_effects.proofs.Steps.{first_stage}
use Rattle.theory_effects.proofs.Built.{parted, front_sizes, back_sizes, nothing_held, plain_of, remembering_of, reverb_of_lem, delay_of}

-- ---- effects without stages are none

no_effects : (effects : Effects) → length (stages_of effects) ≡ 0 → none ≡ effects
unfolding stages_of
no_effects none e = refl
no_effects (next effect spare effects) e = absurd (omega (arith, length-append (stages_in effect) (stages_of effects), ap length (first_stage effect).2))

-- ---- a stage with what its place holds, and effects inside it, is an effect

module _ (rate : ℕ) (inner : Effects) (full : AllFull rate inner) where
  abbrev Made : Stage → Held → Type 0
  Made s own = (effect : Effect) × (spare : Spare) × (stages_in effect ≡ s ∷ stages_of inner) × Full rate effect spare
      × (held_in effect spare ≡ joined own (held_of inner))

  -- one with nothing inside
  alone : (s : Stage) (own : Held) (effect : Effect) (spare : Spare) → length (stages_of inner) ≡ 0 → stages_in effect ≡ s ∷ [] → Full rate effect spare → held_in effect spare ≡ own → Made s own
  unfolding stages_of held_of
  alone s own effect spare z stages whole held =
      let e = no_effects inner z in (
        effect,
        spare,
        stages ∙ ap (λ es. s ∷ stages_of es) e,
        whole,
        held ∙ sym (joined_none own) ∙ ap (λ es. joined own (held_of es)) e,
      )

  module _ (own : Held) where
    made : (s : Stage) → length (stages_of inner) ≡ owned_of s → HeldSizes (floats_of rate s) place_positions place_floats own → OnLines (lines_of rate s) own.positions → Made s own
    unfolding stages_in held_in Full floats_of holding_of lengths_of element_floats
    made (VolumeControl volume) z s on = let r = plain_of own s in alone (VolumeControl volume) own (volume_control volume) r.0 z refl r.2 r.1
    made (PanningControl panning) z s on = let r = plain_of own s in alone (PanningControl panning) own (panning_control panning) r.0 z refl r.2 r.1
    made (Distortion kind drive mix) z s on = let r = plain_of own s in alone (Distortion kind drive mix) own (distortion kind drive mix) r.0 z refl r.2 r.1
    made (Filter mode g resonance mix) z s on =
        let r = remembering_of own s in
        alone (Filter mode g resonance mix) own (filter mode g resonance mix r.0) r.1 z refl r.3 r.2
    made (EqFilter kind g gain q) z s on =
        let r = remembering_of own s in
        alone (EqFilter kind g gain q) own (eq_filter kind g gain q r.0) r.1 z refl r.3 r.2
    made (Reverb feedback damping width mix) z s on =
        let r = reverb_of_lem rate own (record { store = omega (arith, s.store); positions = s.positions; floats = s.floats }) on in
        alone (Reverb feedback damping width mix) own (reverb feedback damping width mix r.0 r.1) r.2 z refl (r.4, r.5, r.6) r.3
    made (Delay frames feedback mix owned) z s on =
        let r = delay_of frames own (record { store = omega (arith, s.store); positions = s.positions; floats = s.floats }) (on 0 (omega arith)) in (
          delay feedback mix r.0 inner,
          r.1,
          λ t. Delay (r.2 t) feedback mix (z t) ∷ stages_of inner,
          (r.4, full),
          ap (λ h. joined h (held_of inner)) r.3,
        )

-- ---- the tree of the stages from place i up to e

-- effects with these stages, all whole, that hold h
abbrev pub Tree : Setup → ℕ → ℕ → Held → Type 0
Tree setup i e h = (effects : Effects) × (stages_of effects ≡ list_from (stage_at setup) i (e - i)) × AllFull setup.rate effects × (held_of effects ≡ h)

-- the places before n and those from n on
list_parts : {A : Type 0} (f : ℕ → A) (i n e : ℕ) → i < n → n ≤ e → f i ∷ (list_from f (suc i) (n - suc i) ++ list_from f n (e - n)) ≡ list_from f i (e - i)
unfolding list_from
list_parts f i n e h g =
    let a : n ≡ suc i + (n - suc i) = omega arith in
    let b : e - i ≡ suc (n - suc i + (e - n)) = omega arith in
    ap (λ xs. f i ∷ xs) (ap (λ k. list_from f (suc i) (n - suc i) ++ list_from f k (e - n)) a ∙ from_parts f (suc i) (n - suc i) (e - n)) ∙ ap (list_from f i) (sym b)

resized : {n p f n' p' f' : ℕ} {h : Held} → HeldSizes n p f h → n ≡ n' → p ≡ p' → f ≡ f' → HeldSizes n' p' f' h
resized s a b c = record { store = s.store ∙ a; positions = s.positions ∙ b; floats = s.floats ∙ c }

-- two ways on, by whether a place comes before another
by_less : {A : Type 0} (i e : ℕ) → (i < e → A) → (e ≤ i → A) → A
by_less {A = A} i e before after = go (dec_lt i e)
  where
    go : Dec (i < e) → A
    go (yes h) = before h
    go (no h) = after (omega arith)

module _ (setup : Setup) (sound : NoneFaulty setup) where
  -- the places from i up to e own nothing past e, and h is what they hold
  record Part (i e : ℕ) (h : Held) : Type 0 where
    ordered : i ≤ e
    used : e ≤ used_of setup
    ends : (j : ℕ) → i ≤ j → j < e → last_of setup j < e
    sizes : HeldSizes (start_of setup e - start_of setup i) (place_positions * (e - i)) (place_floats * (e - i)) h
    good : Good setup i e h.positions

  no_tree : (i e : ℕ) (h : Held) → Part i e h → e ≤ i → Tree setup i e h
  unfolding stages_of AllFull held_of list_from
  no_tree i e h part g =
      let z : e - i ≡ 0 = omega arith in
      let same : e ≡ i = omega (arith, part.ordered) in
      (none, rw z, tt, nothing_held h (resized part.sizes (omega (arith, ap (start_of setup) same)) (omega arith) (omega arith)))

  -- the stage at i with what it owns, and the stages after that
  module _ (i e : ℕ) (h : Held) (part : Part i e h) (less : i < e) where
    abbrev stage : Stage
    stage = stage_at setup i

    -- the place after all that it owns
    abbrev after : ℕ
    after = suc (last_of setup i)

    -- what the stage's place holds, what the places after it hold, and of these what it owns and what it does not
    abbrev size : ℕ
    size = floats_of setup.rate stage

    abbrev own : Held
    own = front size place_positions place_floats h

    abbrev rest : Held
    rest = back size place_positions place_floats h

    abbrev owned : ℕ
    owned = after - suc i

    abbrev room : ℕ
    room = start_of setup after - start_of setup (suc i)

    abbrev inside : Held
    inside = front room (place_positions * owned) (place_floats * owned) rest

    abbrev beyond : Held
    beyond = back room (place_positions * owned) (place_floats * owned) rest

    last_in : after ≤ e
    last_in = part.ends i (omega arith) less

    -- sizes
    sizes_apart : HeldSizes (size + (start_of setup e - start_of setup (suc i))) (place_positions + place_positions * (e - suc i)) (place_floats + place_floats * (e - suc i)) h
    unfolding start_of
    sizes_apart = resized part.sizes (omega (arith, start_le setup (suc i) e less)) (omega arith) (omega arith)

    own_sizes : HeldSizes size place_positions place_floats own
    own_sizes = front_sizes _ _ _ _ _ _ h sizes_apart

    rest_sizes : HeldSizes (room + (start_of setup e - start_of setup after)) (place_positions * owned + place_positions * (e - after)) (place_floats * owned + place_floats * (e - after)) rest
    rest_sizes =
        let in_order : start_of setup (suc i) ≤ start_of setup after = start_le setup (suc i) after (omega arith) in
        let in_order' : start_of setup after ≤ start_of setup e = start_le setup after e last_in in
        resized (back_sizes _ _ _ _ _ _ h sizes_apart) (omega arith) (omega (arith, last_in)) (omega (arith, last_in))

    -- positions
    own_on : OnLines (lines_of setup.rate stage) own.positions
    unfolding front
    own_on k g =
        let one : suc i - i ≡ 1 = omega arith in
        let z : place_positions * (i - i) + k ≡ k = omega arith in
        rw z at ((rw one at (good_front setup i (suc i) e h.positions less part.good)) i k (omega arith) (omega arith) g)

    rest_good : Good setup (suc i) e rest.positions
    unfolding back
    rest_good = let one : suc i - i ≡ 1 = omega arith in rw one at (good_back setup i (suc i) e h.positions (omega arith) part.good)

    inside_part : Part (suc i) after inside
    unfolding front
    inside_part = record {
      ordered = omega arith;
      used = omega (arith, last_in, part.used);
      ends = λ j from to. omega (arith, owned_whole setup sound j (omega (arith, last_in, part.used)) i from (omega arith));
      sizes = front_sizes _ _ _ _ _ _ rest rest_sizes;
      good = good_front setup (suc i) after e rest.positions last_in rest_good;
    }

    beyond_part : Part after e beyond
    unfolding back
    beyond_part = record {
      ordered = last_in;
      used = part.used;
      ends = λ j from to. part.ends j (omega arith) to;
      sizes = back_sizes _ _ _ _ _ _ rest rest_sizes;
      good = good_back setup (suc i) after e rest.positions (omega arith) rest_good;
    }

    more_tree : Tree setup (suc i) after inside → Tree setup after e beyond → Tree setup i e h
    unfolding stages_of AllFull held_of
    more_tree t u =
        let m = made setup.rate t.0 t.2 own stage (ap length t.1 ∙ from_length (stage_at setup) (suc i) owned ∙ omega arith) own_sizes own_on in (
          next m.0 m.1 u.0,
          (λ k. m.2 k ++ u.1 k) ∙ ap (λ xs. stage ∷ (xs ++ list_from (stage_at setup) after (e - after))) t.1 ∙ list_parts (stage_at setup) i after e (omega arith) last_in,
          (m.3, u.2),
          (λ k. joined (m.4 k) (u.3 k)) ∙ ap (λ g. joined (joined own g) beyond) t.3 ∙ joined_assoc own inside beyond ∙ ap (joined own) (parted room (place_positions * owned) (place_floats * owned) rest) ∙ parted size place_positions place_floats h,
        )

  tree : (m i e : ℕ) (h : Held) → e - i ≤ m → Part i e h → Tree setup i e h
  tree zero i e h fuel part = no_tree i e h part (omega arith)
  tree (suc m) i e h fuel part =
      by_less i e
      (λ less.
      let last = last_in i e h part less in
      more_tree i e h part less
      (tree m (suc i) (suc (last_of setup i)) _ (omega arith) (inside_part i e h part less))
      (tree m (suc (last_of setup i)) e _ (omega arith) (beyond_part i e h part less)))
      (no_tree i e h part)

  pub tree_of : (i e : ℕ) (h : Held) → i ≤ e → e ≤ used_of setup → ((j : ℕ) → i ≤ j → j < e → last_of setup j < e)
      → HeldSizes (start_of setup e - start_of setup i) (place_positions * (e - i)) (place_floats * (e - i)) h → Good setup i e h.positions → Tree setup i e h
  tree_of i e h ordered used ends sizes good = tree (e - i) i e h (omega arith) (record { ordered = ordered; used = used; ends = ends; sizes = sizes; good = good })
