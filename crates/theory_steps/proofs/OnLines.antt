-- Positions stay on their lines: if each remembered position of the stages from i up to e is below its line's length, then it is so after a step, which `chain` needs for a block that is cut. Assumes nothing.
-- Neither the store's length nor the shape of the list matters for that, and that each line has a length at all is in what is assumed.
use Rattle.std.proofs.Common.{◌≡◌, refl, ap, sym, ◌∙◌, ◌&&◌, List, ◌++◌, ℕ, zero, suc, ◌+◌, ◌*◌, ◌-◌, ◌≤◌, ◌<◌, arith, ℤ, Float, ltb, leb, length, get_or, set, take, drop, length-drop, length-set, length-take-le, get_or-take, get_or-drop, get_or-append-add, drop-drop, ltb-true}
use mathlib.Core.Bool.{and-eq-true_iff}
use native.Mathlib.Decide.{dec_lt}
use lib.ListN.{get_or-append}
use Rattle.theory_order.specs.Stretch.{part, splice}
use Rattle.line.specs.Frames.{frame_at}
use Rattle.line.specs.Held.{front, back, joined, Ran, ran}
use Rattle.line.specs.Position.{next_position}
use Rattle.line.proofs.Keeps.{Keeps}
use Rattle.reverb.specs.Reverb.{reverb_of}
use Rattle.memories.specs.Sizes.{places, place_positions}
use Rattle.memories.specs.Places.{front_places, back_places}
use Rattle.stage.specs.declared.kind.Stage.{Stage}
use Rattle.stage.specs.declared.kind.Stage.TheVariants.{VolumeControl, PanningControl, Distortion, Filter, EqFilter, Reverb, Delay}
use Rattle.stage.specs.declared.setup.Setup.{Setup}
use Rattle.stage.specs.Holding.{holding_of}
use Rattle.stage.specs.Setup.{stage_at, used_of, next_place}
use Rattle.line_layout.specs.Lines.{lengths_of, lines_of}
use Rattle.stage.proofs.Next.{next_le, next_more}
use Rattle.line_layout.proofs.FewLines.{few_lines}
use Rattle.stage_step.specs.Step.{delay_stage, stage_step, in_turn, span_of, step_of, process_at}
use Rattle.stage_step.proofs.Levels.{step_is, span_zero, span_shallow, span_is, place_is}
use Rattle.theory_steps.proofs.Keeps.{step_keeps}
use Rattle.theory_steps.proofs.Moved.{cond_by, OnLines, Moved, moved_first, next_on, reverb_moves}

-- the lines of the stage at place j
abbrev pub lines_at : Setup → ℕ → List ℕ
lines_at setup j = lines_of setup.rate (stage_at setup j)

-- ps are the positions of the places from i up to e: of the stage at place j, the kth is below the length of the kth line
abbrev pub Good : Setup → ℕ → ℕ → List ℕ → Type 0
Good setup i e ps = (j k : ℕ) → i ≤ j → j < e → k < length (lines_at setup j) → get_or ps (place_positions * (j - i) + k) 0 < get_or (lines_at setup j) k 0

module _ (setup : Setup) where
  -- ---- of the places up to m, of those from m on, and of both together

  pub good_front : (i m e : ℕ) (ps : List ℕ) → m ≤ e → Good setup i e ps → Good setup i m (take (place_positions * (m - i)) ps)
  good_front i m e ps h g j k a b c =
      let few = few_lines setup.rate (stage_at setup j) in
      rw (get_or-take (place_positions * (m - i)) ps (place_positions * (j - i) + k) 0 (omega arith)) (g j k a (omega arith) c)

  pub good_back : (i m e : ℕ) (ps : List ℕ) → i ≤ m → Good setup i e ps → Good setup m e (drop (place_positions * (m - i)) ps)
  good_back i m e ps h g j k a b c =
      let x : place_positions * (m - i) + (place_positions * (j - m) + k) ≡ place_positions * (j - i) + k = omega arith in
      rw (get_or-drop (place_positions * (m - i)) ps (place_positions * (j - m) + k) 0, x) (g j k (omega arith) b c)

  good_join : (i m e : ℕ) (a b : List ℕ) → i ≤ m → length a ≡ place_positions * (m - i) → Good setup i m a → Good setup m e b → Good setup i e (a ++ b)
  good_join i m e a b h q g g' j k ij je kn = go (dec_lt j m)
    where
      go : Dec (j < m) → get_or (a ++ b) (place_positions * (j - i) + k) 0 < get_or (lines_at setup j) k 0
      go (yes jm) =
          let few = few_lines setup.rate (stage_at setup j) in
          rw (get_or-append a b 0 (place_positions * (j - i) + k) (omega arith)) (g j k ij jm kn)
      go (no jm) =
          let x : place_positions * (j - i) + k ≡ length a + (place_positions * (j - m) + k) = omega arith in
          rw (x, get_or-append-add a b (place_positions * (j - m) + k) 0) (g' j k (omega arith) je kn)

  -- ---- a stage

  -- past the first n
  after_same : (n x : ℕ) (ps qs : List ℕ) → drop n qs ≡ drop n ps → n ≤ x → get_or qs x 0 ≡ get_or ps x 0
  after_same n x ps qs e h =
      let y : n + (x - n) ≡ x = omega arith in
      let at : (zs : List ℕ) → get_or zs x 0 ≡ get_or (drop n zs) (x - n) 0 = λ zs. rw (get_or-drop n zs (x - n) 0, y) in
      at qs ∙ ap (λ zs. get_or zs (x - n) 0) e ∙ sym (at ps)

  -- what moves the positions of the stage at i along its lines, and no others
  moved_stays : (i e : ℕ) (ps qs : List ℕ) → i < e → (OnLines (lines_at setup i) ps → Moved (lines_at setup i) ps qs) → Good setup i e ps → Good setup i e qs
  moved_stays i e ps qs h move g j k ij je kn = go (dec_lt i j)
    where
      moved : Moved (lines_at setup i) ps qs
      moved = move (λ k kn. let y : place_positions * (i - i) + k ≡ k = omega arith in rw y at (g i k (omega arith) h kn))

      go : Dec (i < j) → get_or qs (place_positions * (j - i) + k) 0 < get_or (lines_at setup j) k 0
      go (yes past) =
          let few = few_lines setup.rate (stage_at setup i) in
          rw (after_same (length (lines_at setup i)) (place_positions * (j - i) + k) ps qs moved.rest (omega arith)) (g j k ij je kn)
      go (no past) =
          let x : j ≡ i = omega arith in
          let y : place_positions * (j - i) + k ≡ k = omega arith in
          rw (y, x) (moved.on k (rw x at kn))

  -- what leaves the positions of the places from i up to e on their lines
  abbrev pub Stays : ℕ → ℕ → (Ran → Ran) → Type 0
  Stays i e f = (r : Ran) → place_positions * (e - i) ≤ length r.held.positions → Good setup i e r.held.positions → Good setup i e (f r).held.positions

  module _ (i e : ℕ) (h : i < e) (inner : Ran → Ran) (stays : Stays (i + 1) e inner) where
    -- a delay's position moves along its line, and its own stages have the places after it
    delay_stays : (frames : ℕ) (feedback : ℤ) (mix : Float) (owned : ℕ) → stage_at setup i ≡ Delay frames feedback mix owned → Stays i e (delay_stage frames feedback mix inner)
    unfolding delay_stage front back joined holding_of lengths_of
    delay_stays frames feedback mix owned q r n g =
        let ps = r.held.positions in
        let own = take place_positions ps in
        let one : i + 1 - i ≡ 1 = omega arith in
        let size : length own ≡ place_positions = length-take-le place_positions ps (omega arith) in
        let at = get_or own 0 0 in
        let v = next_position at frames in
        let rest = ran (frame_at at (take (2 * frames) r.held.store)) (back_places (2 * frames) 1 r.held) in
        good_join i (i + 1) e (set own 0 v) (inner rest).held.positions (omega arith) (omega (arith, length-set own 0 v))
        (moved_stays i (i + 1) own (set own 0 v) (omega arith) (λ on. rw q (moved_first frames v own (omega arith) (next_on at frames (omega (arith, (rw q at on) 0 (omega arith)))))) (rw one at (good_front i (i + 1) e ps (omega arith) g)))
        (stays rest (omega (arith, length-drop place_positions ps)) (rw one at (good_back i (i + 1) e ps (omega arith) g)))

    stage_stays : (s : Stage) → stage_at setup i ≡ s → Stays i e (stage_step setup.rate inner s)
    unfolding stage_step holding_of lengths_of
    stage_stays (VolumeControl volume) q r n g = g
    stage_stays (PanningControl panning) q r n g = g
    stage_stays (Distortion kind drive mix) q r n g = g
    stage_stays (Filter mode tan resonance mix) q r n g = g
    stage_stays (EqFilter kind tan gain sharp) q r n g = g
    stage_stays (Reverb feedback damping width mix) q r n g =
        let ps = (reverb_of setup.rate feedback damping width mix r).held.positions in
        moved_stays i e r.held.positions ps h (λ on. rw q (reverb_moves setup.rate feedback damping width mix r (rw q at on))) g
    stage_stays (Delay frames feedback mix owned) q r n g = delay_stays frames feedback mix owned q r n g

  -- ---- stages in turn, and a step

  turn_stays : (i m e lines : ℕ) (f g : Ran → Ran) → i ≤ m → m ≤ e → Keeps f → Stays i m f → Stays m e g → Stays i e (in_turn lines (m - i) f g)
  unfolding in_turn front back joined
  turn_stays i m e lines f g im me keeps sf sg r n good =
      let ps = r.held.positions in
      let size : length (take (place_positions * (m - i)) ps) ≡ place_positions * (m - i) = length-take-le (place_positions * (m - i)) ps (omega arith) in
      let front_part = ran r.frame (front_places lines (m - i) r.held) in
      let back_part = ran (f front_part).frame (back_places lines (m - i) r.held) in
      good_join i m e (f front_part).held.positions (g back_part).held.positions im ((keeps front_part).positions ∙ size)
      (sf front_part (omega arith) (good_front i m e ps me good))
      (sg back_part (omega (arith, length-drop (place_positions * (m - i)) ps)) (good_back i m e ps im good))

  module _ (starts : List ℕ) where
    span_stays : (n depth i e : ℕ) → Stays i e (span_of n depth setup starts i e)
    span_stays zero depth i e r k g = rw span_zero g
    span_stays (suc n) zero i e r k g = rw span_shallow g
    span_stays (suc n) (suc depth) i e r k g =
        let next = next_place (stage_at setup i) i e in
        rw span_is
        (cond_by (λ (z : Ran). Good setup i e z.held.positions) (ltb i e) _ r
        (λ t.
        let further : i < next = next_more (stage_at setup i) i e (ltb-true i e t) in
        turn_stays i next e _ _ _ (omega arith) (next_le (stage_at setup i) i e) (step_keeps setup starts i next n depth)
        (λ r k g. rw step_is (stage_stays i next further _ (span_stays n depth (i + 1) next) (stage_at setup i) refl r k g))
        (span_stays n (suc depth) next e) r k g)
        g)

    module _ (i e : ℕ) where
      step_stays : (n depth : ℕ) → i < e → Stays i e (step_of n depth setup starts i e)
      step_stays n depth h r k g = rw step_is (stage_stays i e h _ (span_stays n depth (i + 1) e) (stage_at setup i) refl r k g)

      pub place_stays : Stays i e (process_at setup starts i e)
      place_stays r k g = rw place_is (cond_by (λ (z : Ran). Good setup i e z.held.positions) (ltb i e && leb e places) _ r (λ t. step_stays places 3 (ltb-true i e ((and-eq-true_iff (ltb i e) (leb e places)).0 t).0) r k g) g)

  -- ---- the same of all positions, of which a step is lent those of the places from i up to e

  pub good_part : (i e : ℕ) (ps : List ℕ) → e ≤ used_of setup → Good setup 0 (used_of setup) ps → Good setup i e (part (place_positions * i) (place_positions * (e - i)) ps)
  good_part i e ps h g = let z : i - 0 ≡ i = omega arith in good_front i e (used_of setup) (drop (place_positions * i) ps) h (rw z at (good_back 0 i (used_of setup) ps (omega arith) g))

  pub good_splice : (i e : ℕ) (a ps : List ℕ) → i ≤ e → e ≤ used_of setup → place_positions * used_of setup ≤ length ps → length a ≡ place_positions * (e - i) → Good setup i e a → Good setup 0 (used_of setup) ps → Good setup 0 (used_of setup) (splice (place_positions * i) a ps)
  good_splice i e a ps ie ec n q g g' =
      let c = used_of setup in
      let z : i - 0 ≡ i = omega arith in
      let w : e - 0 ≡ e = omega arith in
      let x : place_positions * i + length a ≡ place_positions * e = omega arith in
      let y : drop (length a) (drop (place_positions * i) ps) ≡ drop (place_positions * e) ps = drop-drop (length a) (place_positions * i) ps ∙ ap (λ m. drop m ps) x in
      good_join 0 i c (take (place_positions * i) ps) _ (omega arith) (rw z (length-take-le (place_positions * i) ps (omega arith))) (rw z at (good_front 0 i c ps (omega arith) g'))
      (rw y (good_join i e c a _ ie q g (rw w at (good_back 0 e c ps (omega arith) g'))))
