-- How much effects hold: as many floats as the lines of their stages have, and the positions and floats of one place for each stage. Assumes nothing.
use Rattle.std.proofs.Common.{◌≡◌, refl, ap, sym, ◌∙◌, List, [], ◌∷◌, ◌++◌, ℕ, suc, ◌+◌, ◌*◌, arith, ℤ, Float, length, length-append}
use Rattle.frame.specs.declared.Frame.{Frame}
use Rattle.integrators.specs.declared.Integrators.{Integrators}
use Rattle.line.specs.Held.{Held, holds, joined}
use Rattle.reverb_tuning.specs.Tuning.{reverb_floats}
use Rattle.reverb_tuning.proofs.Tunings.{floats_are}
use Rattle.memories.specs.Sizes.{place_positions, place_floats}
use Rattle.stage.specs.declared.kind.Stage.{Stage}
use Rattle.stage.specs.declared.kind.Stage.TheVariants.{VolumeControl, PanningControl, Distortion, Filter, EqFilter, Reverb, Delay}
use Rattle.stage.specs.declared.setup.Setup.{Setup}
use Rattle.stage.specs.Holding.{holding_of}
use Rattle.stage.specs.Setup.{stage_at}
use Rattle.line_layout.specs.Lines.{floats_of, lengths_of, element_floats}
use Rattle.line_layout.specs.Layout.{start_of}
use Rattle.line_layout.proofs.LineStarts.{start_more}
use Rattle.theory_effects.specs.Line.{Line, buffer, position}
use Rattle.theory_effects.specs.Effects.{Spare, Effect, volume_control, panning_control, distortion, filter, eq_filter, reverb, delay, Effects, none, next}
use Rattle.theory_effects.specs.Standing.{stages_in, stages_of, side_by_side, memory_held, spare_held, held_in, held_of, FullPlace, Full, AllFull}
use Rattle.theory_effects.proofs.Joined.{HeldSizes, sizes_joined}
use Rattle.theory_effects.proofs.Lines.{length_sides}
use Rattle.theory_effects.proofs.Reverbs.{reverb_sizes}

-- ---- stages at list places

-- these stages stand in the list from place i on
abbrev pub Stand : Setup → List Stage → ℕ → Type 0
Stand setup [] i = Unit {0}
Stand setup (s ∷ stages) i = (stage_at setup i ≡ s) × Stand setup stages (i + 1)

pub stand_parts : (setup : Setup) (xs ys : List Stage) (i : ℕ) → Stand setup (xs ++ ys) i → Stand setup xs i × Stand setup ys (i + length xs)
stand_parts setup [] ys i h = (tt, let e : i + 0 ≡ i = omega arith in rw e h)
stand_parts setup (x ∷ xs) ys i h =
    let r = stand_parts setup xs ys (i + 1) h.1 in
    let e : i + suc (length xs) ≡ i + 1 + length xs = omega arith in
    ((h.0, r.0), rw e r.1)

-- the floats of their lines
abbrev pub floats_in : ℕ → List Stage → ℕ
floats_in rate [] = 0
floats_in rate (s ∷ stages) = floats_of rate s + floats_in rate stages

floats_append : (rate : ℕ) (xs ys : List Stage) → floats_in rate (xs ++ ys) ≡ floats_in rate xs + floats_in rate ys
floats_append rate [] ys = omega arith
floats_append rate (x ∷ xs) ys = omega (arith, floats_append rate xs ys)

pub start_after : (setup : Setup) (stages : List Stage) (i : ℕ) → Stand setup stages i → start_of setup (i + length stages) ≡ start_of setup i + floats_in setup.rate stages
start_after setup [] i h = let e : i + 0 ≡ i = omega arith in rw e (omega arith)
start_after setup (s ∷ stages) i h =
    let e : i + suc (length stages) ≡ i + 1 + length stages = omega arith in
    rw e (omega (arith, start_after setup stages (i + 1) h.1, start_more setup i, ap (floats_of setup.rate) h.0))

-- ---- what effects hold

-- what so many stages hold
abbrev pub SizesFor : ℕ → List Stage → Held → Type 0
SizesFor rate stages h = HeldSizes (floats_in rate stages) (place_positions * length stages) (place_floats * length stages) h

module _ (rate : ℕ) where
  sizes_append : (xs ys : List Stage) (a b : Held) → SizesFor rate xs a → SizesFor rate ys b → SizesFor rate (xs ++ ys) (joined a b)
  sizes_append xs ys a b s t =
      let z = sizes_joined a b _ _ _ _ _ _ s t in
      record {
        store = z.store ∙ sym (floats_append rate xs ys);
        positions = z.positions ∙ omega (arith, length-append xs ys);
        floats = z.floats ∙ omega (arith, length-append xs ys);
      }

  -- one stage
  alone : (s : Stage) (h : Held) → HeldSizes (floats_of rate s) place_positions place_floats h → SizesFor rate (s ∷ []) h
  alone s h z = record { store = omega (arith, z.store); positions = omega (arith, z.positions); floats = omega (arith, z.floats) }

  -- the memories of a place, of a stage without lines
  sizes_plain : (spare : Spare) → FullPlace 0 0 spare → HeldSizes 0 place_positions place_floats (spare_held spare)
  sizes_plain spare f = record { store = refl; positions = omega (arith, f.positions_are); floats = omega (arith, f.floats_are) }

  -- with two remembered frames
  sizes_remembering : (memory : Integrators) (spare : Spare) → FullPlace 0 4 spare → HeldSizes 0 place_positions place_floats (joined (spare_held spare) (memory_held memory))
  unfolding joined memory_held side_by_side
  sizes_remembering memory spare f = record {
    store = refl;
    positions = omega (arith, f.positions_are, length-append spare.positions []);
    floats = omega (arith, f.floats_are, length-append spare.floats (side_by_side (memory.ic1eq ∷ (memory.ic2eq ∷ []))));
  }

  reverb_floats_lem : (feedback damping width mix : Float) → floats_of rate (Reverb feedback damping width mix) ≡ reverb_floats rate
  unfolding floats_of
  reverb_floats_lem feedback damping width mix = omega (arith, floats_are rate)

  -- a delay's own
  sizes_delay : (feedback : ℤ) (mix : Float) (l : Line Frame) (owned : ℕ) (spare : Spare) → FullPlace 1 0 spare
      → HeldSizes (floats_of rate (Delay (length (buffer l)) feedback mix owned)) place_positions place_floats (joined (holds (side_by_side (buffer l)) (position l ∷ []) []) (spare_held spare))
  unfolding joined floats_of
  sizes_delay feedback mix l owned spare f = record {
    store = omega (arith, length-append (side_by_side (buffer l)) [], length_sides (buffer l));
    positions = omega (arith, f.positions_are);
    floats = omega (arith, f.floats_are);
  }

  mutual
    unfolding stages_in stages_of held_in held_of Full AllFull floats_of holding_of lengths_of element_floats

    pub sized_in : (effect : Effect) (spare : Spare) → Full rate effect spare → SizesFor rate (stages_in effect) (held_in effect spare)
    sized_in (volume_control volume) spare f = alone (VolumeControl volume) _ (sizes_plain spare f)
    sized_in (panning_control panning) spare f = alone (PanningControl panning) _ (sizes_plain spare f)
    sized_in (distortion kind drive mix) spare f = alone (Distortion kind drive mix) _ (sizes_plain spare f)
    sized_in (filter mode g resonance mix memory) spare f = alone (Filter mode g resonance mix) _ (sizes_remembering memory spare f)
    sized_in (eq_filter kind g gain q memory) spare f = alone (EqFilter kind g gain q) _ (sizes_remembering memory spare f)
    sized_in (reverb feedback damping width mix left right) spare f =
        alone (Reverb feedback damping width mix) _ (rw (reverb_floats_lem feedback damping width mix) (reverb_sizes rate feedback damping width mix left right spare f))
    sized_in (delay feedback mix line effects) spare f =
        let stage = Delay (length (buffer line)) feedback mix (length (stages_of effects)) in
        sizes_append (stage ∷ []) (stages_of effects) _ _ (alone stage _ (sizes_delay feedback mix line (length (stages_of effects)) spare f.0)) (sized_of effects f.1)

    pub sized_of : (effects : Effects) → AllFull rate effects → SizesFor rate (stages_of effects) (held_of effects)
    sized_of none f = record { store = refl; positions = refl; floats = refl }
    sized_of (next effect spare effects) f = sizes_append (stages_in effect) (stages_of effects) _ _ (sized_in effect spare f.0) (sized_of effects f.1)
