-- A stage, a delay, a span and a list place, as the code takes them apart. Assumes nothing.
use Rattle.std.proofs.Common.{◌≡◌, refl, List, ◌++◌, ℕ, zero, suc, ◌+◌, ◌*◌, ◌-◌, ◌<◌, ◌≤◌, min, arith, ℤ, Float, length, get_or, set, take, drop, get_or-take, lt-ltb, le-ltb, le-leb}
use native.Mathlib.Decide.{dec_lt}
use borrow.Author.Tests.{lt-leb}
use Rattle.decibels.specs.Amplitude.{amplitude_of}
use Rattle.frame.specs.declared.Frame.{Frame}
use Rattle.frame.specs.Operations.{add_of, mul_of}
use Rattle.frame.specs.Mix.{mix_of}
use Rattle.line.specs.Held.{Held, holds, front, back, joined, Ran, ran}
use Rattle.line.specs.Position.{next_position}
use Rattle.line.specs.Frames.{frame_at, frame_in}
use Rattle.line.proofs.Lent.{lent, home}
use Rattle.memories.specs.Sizes.{places, place_positions, place_floats}
use Rattle.memories.specs.Places.{front_places, back_places}
use Rattle.stage.specs.declared.kind.Stage.{Stage}
use Rattle.stage.specs.declared.setup.Setup.{Setup}
use Rattle.stage.specs.Setup.{stage_at, next_place}
use Rattle.line_layout.specs.Layout.{size_of}
use Rattle.stage_step.specs.Step.{delay_stage, stage_step, in_turn, span_of, step_of, process_at}
use Rattle.stage_step.proofs.Lent.{front_is, lent_is, home_is, home_front, home_rest, then_lent, then_home, set_front}
use Rattle.stage_step.proofs.Levels.{step_is, span_zero, span_shallow, span_is, place_is}

-- ---- a stage

pub step_by : (setup : Setup) (starts : List ℕ) (i e depth : ℕ) (r z : Ran) (s : Stage) → stage_at setup i ≡ s
    → ((n : ℕ) → e - (i + 1) ≤ n → z ≡ stage_step setup.rate (span_of n depth setup starts (i + 1) e) s r)
    → (n : ℕ) → e - (i + 1) ≤ n → z ≡ step_of n depth setup starts i e r
step_by setup starts i e depth r z s q met n g = rw (step_is, q) (met n g)

-- ---- a span

module _ (setup : Setup) (starts : List ℕ) (i e depth : ℕ) where
  pub span_no_depth : (r : Ran) → depth ≡ 0 → (n : ℕ) → e - i ≤ n → r ≡ span_of n depth setup starts i e r
  span_no_depth r h zero g = rw span_zero
  span_no_depth r h (suc n) g = rw (h, span_shallow)

  pub span_none : (r : Ran) → e ≤ i → (n : ℕ) → e - i ≤ n → r ≡ span_of n depth setup starts i e r
  span_none r h zero g = rw span_zero
  span_none r h (suc n) g = go depth
    where
      go : (depth : ℕ) → r ≡ span_of (suc n) depth setup starts i e r
      go zero = rw span_shallow
      go (suc depth) = rw (span_is, le-ltb i e h)

-- one after the other
turn_met : (lines m : ℕ) (f g : Ran → Ran) (x y z : Frame) (h a b : Held) → ran y a ≡ f (ran x (front_places lines m h)) → ran z b ≡ g (ran y (back_places lines m h)) → ran z (joined a b) ≡ in_turn lines m f g (ran x h)
unfolding in_turn
turn_met lines m f g x y z h a b p q = rw (← p, ← q)

-- the stage at i on the front, and the stages from the next on the rest
span_more : (setup : Setup) (starts : List ℕ) (i e depth next : ℕ) (x y z : Frame) (h a b : Held)
    → next ≡ next_place (stage_at setup i) i e → i < e → i < next → next ≤ e → (depth ≡ 0 → ⊥)
    → ((n : ℕ) → next - (i + 1) ≤ n → ran y a ≡ step_of n (depth - 1) setup starts i next (ran x (front_places (size_of starts i next) (next - i) h)))
    → ((n : ℕ) → e - next ≤ n → ran z b ≡ span_of n depth setup starts next e (ran y (back_places (size_of starts i next) (next - i) h)))
    → (n : ℕ) → e - i ≤ n → ran z (joined a b) ≡ span_of n depth setup starts i e (ran x h)
span_more setup starts i e zero next x y z h a b q lt ln ne d one rest n g = absurd (d refl)
span_more setup starts i e (suc depth) next x y z h a b q lt ln ne d one rest zero g = absurd (omega arith)
span_more setup starts i e (suc depth) next x y z h a b q lt ln ne d one rest (suc n) g =
    let k : suc depth - 1 ≡ depth = omega arith in
    rw (span_is, lt-ltb i e lt, ← q) (turn_met _ _ _ _ x y z h a b (rw k at (one n (omega arith))) (rest n (omega arith)))

-- the same, where the first s, p and f were lent and came back as a, and then what follows them came back as b
pub span_lent : (setup : Setup) (starts : List ℕ) (i e depth next s p f : ℕ) (x y z : Frame) (st : List Float) (po : List ℕ) (fl : List Float) (a b : Held)
    → next ≡ next_place (stage_at setup i) i e → i < e → i < next → next ≤ e → (depth ≡ 0 → ⊥)
    → s ≡ min (size_of starts i next) (length st) → p ≡ min (place_positions * (next - i)) (length po) → f ≡ min (place_floats * (next - i)) (length fl)
    → length a.store ≡ length (take s st) → length a.positions ≡ length (take p po) → length a.floats ≡ length (take f fl)
    → ((n : ℕ) → next - (i + 1) ≤ n → ran y a ≡ step_of n (depth - 1) setup starts i next (ran x (holds (take s st) (take p po) (take f fl))))
    → ((n : ℕ) → e - next ≤ n → ran z b ≡ span_of n depth setup starts next e (ran y (holds (lent s (a.store ++ drop s st)) (lent p (a.positions ++ drop p po)) (lent f (a.floats ++ drop f fl)))))
    → (n : ℕ) → e - i ≤ n
    → ran z (holds (home s (a.store ++ drop s st) b.store) (home p (a.positions ++ drop p po) b.positions) (home f (a.floats ++ drop f fl) b.floats))
    ≡ span_of n depth setup starts i e (ran x (holds st po fl))
unfolding front back joined
span_lent setup starts i e depth next s p f x y z st po fl a b q lt ln ne d es ep ef ls lp lf one rest n g =
    rw (then_home _ s st es a.store ls b.store, then_home _ p po ep a.positions lp b.positions, then_home _ f fl ef a.floats lf b.floats)
    (span_more setup starts i e depth next x y z (holds st po fl) a b q lt ln ne d
    (rw (front_is _ s st es, front_is _ p po ep, front_is _ f fl ef) at one)
    (rw (then_lent _ s st es a.store ls, then_lent _ p po ep a.positions lp, then_lent _ f fl ef a.floats lf) at rest) n g)

-- ---- a delay

module _ (frames : ℕ) (feedback : ℤ) (mix : Float) (inner : Ran → Ran) where
  -- its own stages gave `fed` and left b
  delay_met : (x old fed : Frame) (h b : Held)
      → old ≡ frame_at (get_or h.positions 0 0) (take (2 * frames) h.store)
      → ran fed b ≡ inner (ran old (back_places (2 * frames) 1 h))
      → ran (mix_of (mul_of fed (amplitude_of feedback)) x mix)
      (joined
      (holds (frame_in (get_or h.positions 0 0) (add_of x (mul_of fed (amplitude_of feedback))) (take (2 * frames) h.store))
      (set (take place_positions h.positions) 0 (next_position (get_or h.positions 0 0) frames))
      (take place_floats h.floats))
      b)
      ≡ delay_stage frames feedback mix inner (ran x h)
  unfolding delay_stage front
  delay_met x old fed h b o q = rw (get_or-take place_positions h.positions 0 0 (omega arith), ← o, ← q)

  -- the same, where what follows the first s, p and f came back as b, and then the line as `line` and the positions as `pos`
  pub delay_lent : (s p f at w : ℕ) (amp : Float) (x old fed wet new y : Frame) (st : List Float) (po : List ℕ) (fl line : List Float) (pos : List ℕ) (b : Held)
      → s ≡ min (2 * frames) (length st) → p ≡ min place_positions (length po) → f ≡ min place_floats (length fl)
      → length b.positions ≡ length (lent p po)
      → at ≡ get_or po 0 0
      → old ≡ frame_at at (take s st)
      → ran fed b ≡ inner (ran old (holds (lent s st) (lent p po) (lent f fl)))
      → amp ≡ amplitude_of feedback → wet ≡ mul_of fed amp → new ≡ add_of x wet
      → line ≡ frame_in at new (take s (home s st b.store))
      → w ≡ next_position at frames
      → pos ≡ set (home p po b.positions) 0 w
      → y ≡ mix_of wet x mix
      → ran y (holds (line ++ drop s (home s st b.store)) pos (home f fl b.floats)) ≡ delay_stage frames feedback mix inner (ran x (holds st po fl))
  unfolding back joined
  delay_lent s p f at w amp x old fed wet new y st po fl line pos b es ep ef lp a o q am we ne li wr ps m =
      let li' : line ≡ frame_in at new (take (2 * frames) st) = rw (home_front _ s st es) at li in
      let lp' : length b.positions ≡ length (drop place_positions po) = rw (lent_is _ p po ep) at lp in
      rw (m, li', ne, we, am, ps, home_rest _ s st es b.store, home_is _ p po ep b.positions, home_is _ f fl ef b.floats, set_front place_positions po b.positions w (omega arith) lp', wr, a)
      (delay_met x old fed (holds st po fl) b (rw (a, front_is _ s st es) at o) (rw (lent_is _ s st es, lent_is _ p po ep, lent_is _ f fl ef) at q))

-- ---- a list place

module _ (setup : Setup) (starts : List ℕ) (i e : ℕ) (r : Ran) where
  pub place_inside : i < e → e ≤ places → process_at setup starts i e r ≡ step_of places 3 setup starts i e r
  place_inside h g = rw (place_is, lt-ltb i e h, le-leb e places g)

  pub place_empty : e ≤ i → process_at setup starts i e r ≡ r
  place_empty h = rw (place_is, le-ltb i e h)

  pub place_past : places < e → process_at setup starts i e r ≡ r
  place_past h = go (dec_lt i e)
    where
      go : Dec (i < e) → process_at setup starts i e r ≡ r
      go (yes g) = rw (place_is, lt-ltb i e g, lt-leb e places h)
      go (no g) = place_empty (omega arith)
