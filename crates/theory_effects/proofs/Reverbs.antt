-- One frame through a reverb that has all of its lines is what kira's lines, sides and reverb make of it, each with what it alone holds. Assumes nothing.
use Rattle.std.proofs.Common.{◌≡◌, refl, sym, ap, ◌∙◌, true, List, [], ◌∷◌, map, ℕ, ◌*◌, ◌≤◌, arith, Float, length, take, drop, length-take, length-drop, le-leb}
use Rattle.std.specs.Float.{nan, binary32}
use lib.Ieee.{add, mul}
use lib.ListN.{length-map}
use Rattle.float.specs.Literal.{literal}
use Rattle.frame.specs.declared.Frame.{Frame}
use Rattle.frame.specs.Mix.{mix_of}
use Rattle.line.specs.AllPass.{passed_of, pass_line_of}
use Rattle.line.specs.Comb.{store_of, combed_of, comb_line_of}
use Rattle.line.specs.Held.{Held, holds, joined, ran}
use Rattle.memories.specs.Sizes.{place_positions, place_floats}
use Rattle.reverb_tuning.specs.Tuning.{comb_count, line_count, reverb_lines, reverb_floats}
use Rattle.reverb_tuning.proofs.Tunings.{floats_are}
use Rattle.std.specs.List.{sum}
use Rattle.std.proofs.lemmas.List.Sums.{sum_by-cons, sum_by-take-drop}
use Rattle.reverb.specs.Reverb.{Heard, heard, comb_of, pass_of, lines_in_turn, side_of, width_of, reverb_of}
use Rattle.reverb.proofs.Levels.{mono, sides, fits, side_is, reverbed_is, reverb_is}
use Rattle.theory_effects.specs.Line.{Line, buffer, position}
use Rattle.theory_effects.specs.Effects.{Comb, Side, Spare, Effect, reverb}
use Rattle.theory_effects.specs.Process.{each_in_turn, comb_step, pass_step, side_step, widened, process}
use Rattle.theory_effects.specs.Standing.{lines_held, combs_held, side_held, spare_held, held_in, FullPlace, Full}
use Rattle.theory_effects.proofs.SideLengths.{Lengths, left_lengths, right_lengths, left_full, right_full}
use Rattle.theory_effects.proofs.Joined.{HeldSizes, sizes_joined, front_joined, back_joined, joined_none, joined_assoc}
use Rattle.theory_effects.proofs.Lines.{here_read, here_stored, position_on, length_stored}

none_joined : (a : Held) → joined (holds [] [] []) a ≡ a
unfolding joined
none_joined a = refl

-- ---- one line

abbrev comb_size : Comb → ℕ
comb_size c = length (buffer c.line)

abbrev line_size : Line Float → ℕ
line_size l = length (buffer l)

abbrev comb_held : Comb → Held
comb_held c = holds (buffer c.line) (position c.line ∷ []) (c.filter_store ∷ [])

abbrev line_held : Line Float → Held
line_held l = holds (buffer l) (position l ∷ []) []

comb_whole : (feedback damping input sum : Float) (c : Comb) → comb_of feedback damping input sum (comb_held c) ≡ heard (comb_step feedback damping input sum c).0 (comb_held (comb_step feedback damping input sum c).1)
unfolding comb_of combed_of comb_line_of store_of comb_step
comb_whole feedback damping input sum c =
    let y = add binary32 input (mul binary32 (store_of damping c.filter_store c.line.here) feedback) in
    rw (here_read c.line nan, here_stored y c.line, position_on y c.line)

comb_kept : (feedback damping input sum : Float) (c : Comb) → comb_size (comb_step feedback damping input sum c).1 ≡ comb_size c
unfolding comb_step
comb_kept feedback damping input sum c = length_stored _ c.line

pass_whole : (input : Float) (l : Line Float) → pass_of input (line_held l) ≡ heard (pass_step input l).0 (line_held (pass_step input l).1)
unfolding pass_of passed_of pass_line_of pass_step
pass_whole input l =
    let y = add binary32 input (mul binary32 l.here (literal binary32 1 2)) in
    rw (here_read l nan, here_stored y l, position_on y l)

pass_kept : (input : Float) (l : Line Float) → line_size (pass_step input l).1 ≡ line_size l
unfolding pass_step
pass_kept input l = length_stored _ l

-- ---- lines in turn, combs or all-passes

lengths_kept : {A : Type 0} (size : A → ℕ) (step : Float → A → Float × A) → ((x : Float) (a : A) → size (step x a).1 ≡ size a) → (l : List A) (x : Float) → map size (each_in_turn step x l).1 ≡ map size l
unfolding each_in_turn
lengths_kept size step keeps [] x = refl
lengths_kept size step keeps (a ∷ l) x = rw (keeps x a, lengths_kept size step keeps l (step x a).0)

-- what stands one after another: lines of these sizes, each with a position and f floats
record InLine {A : Type 0} (f : ℕ) (size : A → ℕ) (own : A → Held) (all : List A → Held) : Type 0 where
  sized : (a : A) → HeldSizes (size a) 1 f (own a)
  none : all [] ≡ holds [] [] []
  more : (a : A) (l : List A) → all (a ∷ l) ≡ joined (own a) (all l)

module _ {A : Type 0} {f : ℕ} {size : A → ℕ} {own : A → Held} {all : List A → Held} (are : InLine f size own all) where
  all_sized : (l : List A) → HeldSizes (sum (map size l)) (length l) (f * length l) (all l)
  all_sized [] = rw are.none (record { store = refl; positions = refl; floats = omega arith })
  all_sized (a ∷ l) =
      let s = sizes_joined (own a) (all l) _ _ _ _ _ _ (are.sized a) (all_sized l) in
      rw (are.more a l) (record { store = s.store ∙ sym (sum_by-cons (λ (n : ℕ). n) (size a) (map size l)); positions = omega arith; floats = omega arith })

  lines_whole : (step : Float → A → Float × A) (line next : Float → Held → Heard) → ((x : Float) (a : A) → line x (own a) ≡ heard (step x a).0 (own (step x a).1))
      → (l : List A) (x y : Float) (h g : Held) → next (each_in_turn step x l).0 h ≡ heard y g
      → lines_in_turn f line next (map size l) x (joined (all l) h) ≡ heard y (joined (all (each_in_turn step x l).1) g)
  unfolding lines_in_turn each_in_turn
  lines_whole step line next steps [] x y h g last = rw (are.none, none_joined h, none_joined g) last
  lines_whole step line next steps (a ∷ l) x y h g last =
      let p = step x a in
      let q = each_in_turn step p.0 l in
      rw (are.more a l, are.more p.1 q.1, joined_assoc (own a) (all l) h, joined_assoc (own p.1) (all q.1) g, front_joined (own a) (joined (all l) h) (size a) 1 f (are.sized a), back_joined (own a) (joined (all l) h) (size a) 1 f (are.sized a), steps x a, lines_whole step line next steps l p.0 y h g last)

combs_are : InLine 1 comb_size comb_held combs_held
unfolding combs_held
combs_are = record { sized = λ c. record { store = refl; positions = refl; floats = refl }; none = refl; more = λ c l. refl }

passes_are : InLine 0 line_size line_held lines_held
unfolding lines_held
passes_are = record { sized = λ l. record { store = refl; positions = refl; floats = refl }; none = refl; more = λ l ls. refl }

-- ---- one side

side_held_lem : (side : Side) → side_held side ≡ joined (combs_held side.combs) (lines_held side.passes)
unfolding side_held
side_held_lem side = refl

module _ (feedback damping x : Float) (side : Side) where
  abbrev summed : Float × List Comb
  summed = each_in_turn (comb_step feedback damping x) (literal binary32 0 1) side.combs

  abbrev passed : Float × List (Line Float)
  passed = each_in_turn pass_step summed.0 side.passes

  side_step_lem : side_step feedback damping x side ≡ (passed.0, record { combs = summed.1; passes = passed.1 })
  unfolding side_step
  side_step_lem = refl

  module _ (lines : List ℕ) (full : Lengths lines side) where
    side_whole : (h : Held) → side_of lines feedback damping x (joined (side_held side) h) ≡ heard (side_step feedback damping x side).0 (joined (side_held (side_step feedback damping x side).1) h)
    side_whole h =
        rw (side_is, side_step_lem, side_held_lem side, side_held_lem (record { combs = summed.1; passes = passed.1 }), ← full.combs, ← full.passes, joined_assoc (combs_held side.combs) (lines_held side.passes) h, joined_assoc (combs_held summed.1) (lines_held passed.1) h)
        (lines_whole combs_are (comb_step feedback damping x) (comb_of feedback damping x) (lines_in_turn 0 pass_of heard (map line_size side.passes)) (comb_whole feedback damping x) side.combs (literal binary32 0 1) passed.0 _ _
        (lines_whole passes_are pass_step pass_of heard pass_whole side.passes summed.0 passed.0 h h refl))

    side_alone : side_of lines feedback damping x (side_held side) ≡ heard (side_step feedback damping x side).0 (side_held (side_step feedback damping x side).1)
    side_alone = rw (joined_none (side_held side), joined_none (side_held (side_step feedback damping x side).1)) at (side_whole (holds [] [] []))

    side_lengths : Lengths lines (side_step feedback damping x side).1
    side_lengths = rw side_step_lem (record {
      combs = lengths_kept comb_size (comb_step feedback damping x) (comb_kept feedback damping x) side.combs _ ∙ full.combs;
      passes = lengths_kept line_size pass_step pass_kept side.passes _ ∙ full.passes;
    })

side_sized : (lines : List ℕ) (side : Side) → length lines ≡ 12 → Lengths lines side → HeldSizes (sum lines) 12 8 (side_held side)
side_sized lines side twelve full =
    let eight : length side.combs ≡ 8 = omega (arith, length-map side.combs comb_size, ap length full.combs, length-take 8 lines) in
    let four : length side.passes ≡ 4 = omega (arith, length-map side.passes line_size, ap length full.passes, length-drop 8 lines) in
    let s = sizes_joined _ _ _ _ _ _ _ _ (all_sized combs_are side.combs) (all_sized passes_are side.passes) in
    rw (side_held_lem side) (record {
      store = omega (arith, ap sum full.combs, ap sum full.passes, sum_by-take-drop (λ (n : ℕ). n) lines 8);
      positions = omega arith;
      floats = omega arith;
    })

-- ---- a reverb

reverb_held : (feedback damping width mix : Float) (left right : Side) (spare : Spare) → held_in (reverb feedback damping width mix left right) spare ≡ joined (side_held left) (joined (side_held right) (spare_held spare))
unfolding held_in
reverb_held feedback damping width mix left right spare = refl

spare_sized : (spare : Spare) → HeldSizes 0 (length spare.positions) (length spare.floats) (spare_held spare)
spare_sized spare = record { store = refl; positions = refl; floats = refl }

module _ (feedback damping width mix : Float) (left right : Side) (x : Frame) where
  abbrev left_step : Float × Side
  left_step = side_step feedback damping (mono x) left

  abbrev right_step : Float × Side
  right_step = side_step feedback damping (mono x) right

  reverb_step : process (reverb feedback damping width mix left right) x ≡ (mix_of (width_of left_step.0 right_step.0 width) x mix, reverb feedback damping width mix left_step.1 right_step.1)
  unfolding process widened width_of
  reverb_step = refl

module _ (rate : ℕ) (feedback damping width mix : Float) (left right : Side) (spare : Spare) where
  abbrev effect : Effect
  effect = reverb feedback damping width mix left right

  module _ (full : Full rate effect spare) where
    left_are : Lengths (take 12 (reverb_lines rate)) left
    unfolding Full
    left_are = left_lengths rate left full.0

    right_are : Lengths (drop 12 (reverb_lines rate)) right
    unfolding Full
    right_are = right_lengths rate right full.1

    place_full : FullPlace line_count comb_count spare
    unfolding Full
    place_full = full.2

    left_sized : HeldSizes (sum (take 12 (reverb_lines rate))) 12 8 (side_held left)
    unfolding reverb_lines
    left_sized = side_sized (take 12 (reverb_lines rate)) left refl left_are

    right_sized : HeldSizes (sum (drop 12 (reverb_lines rate))) 12 8 (side_held right)
    unfolding reverb_lines
    right_sized = side_sized (drop 12 (reverb_lines rate)) right refl right_are

    -- it holds as many floats of the store as a reverb's lines have, and as many positions and floats as every list place
    pub reverb_sizes : HeldSizes (reverb_floats rate) place_positions place_floats (held_in effect spare)
    reverb_sizes =
        let place = place_full in
        let s = sizes_joined _ _ _ _ _ _ _ _ left_sized (sizes_joined _ _ _ _ _ _ _ _ right_sized (spare_sized spare)) in
        rw reverb_held (record { store = omega (arith, floats_are rate, sum_by-take-drop (λ (n : ℕ). n) (reverb_lines rate) 12); positions = omega arith; floats = omega arith })

    -- so there is room for a reverb
    reverb_fits : fits rate (held_in effect spare) ≡ true
    reverb_fits =
        let h = held_in effect spare in
        let s = reverb_sizes in
        let store : reverb_floats rate ≤ length h.store = omega arith in
        let positions : line_count ≤ length h.positions = omega arith in
        let floats : comb_count ≤ length h.floats = omega arith in
        simp le-leb

    -- one frame through it is what kira's reverb makes of it
    pub reverb_whole : (x : Frame) → reverb_of rate feedback damping width mix (ran x (held_in effect spare)) ≡ ran (process effect x).0 (held_in (process effect x).1 spare)
    unfolding sides
    reverb_whole x =
        let rest = joined (side_held right) (spare_held spare) in
        rw (
          reverb_is,
          reverb_fits,
          reverbed_is,
          reverb_step,
          reverb_held feedback damping width mix left right spare,
          reverb_held,
          front_joined (side_held left) rest _ 12 8 left_sized,
          back_joined (side_held left) rest _ 12 8 left_sized,
          side_alone feedback damping (mono x) left _ left_are,
          side_whole feedback damping (mono x) right _ right_are (spare_held spare),
        )

    -- and it still has all of its lines
    pub reverb_full : (x : Frame) → Full rate (process effect x).1 spare
    unfolding Full
    reverb_full x = rw reverb_step (left_full rate _ (side_lengths feedback damping (mono x) left _ left_are), right_full rate _ (side_lengths feedback damping (mono x) right _ right_are), full.2)
