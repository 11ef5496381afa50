-- A step of a top stage, as the code takes it: where its stretches lie, and that what the code leaves is the step. Assumes nothing.
use Rattle.std.proofs.Common.{◌≡◌, refl, ap, ◌∙◌, List, [], ◌∷◌, ◌++◌, ℕ, zero, suc, ◌+◌, ◌*◌, ◌-◌, ◌≤◌, ◌<◌, arith, add-one, Float, length, get_or, set, take, drop, get_or-take, get_or-drop}
use Rattle.std.specs.Float.{nan}
use Rattle.frame.specs.declared.Frame.{Frame}
use Rattle.line.specs.Held.{Held, holds, Ran, ran}
use Rattle.theory_order.specs.Stretch.{part, splice}
use Rattle.theory_order.specs.Chain.{State, at, step, put, out}
use Rattle.stage.specs.declared.setup.Setup.{Setup}
use Rattle.memories.specs.Sizes.{places, place_positions, place_floats}
use Rattle.stage.specs.Setup.{used_of}
use Rattle.line_layout.specs.Layout.{start_of, starts_of}
use Rattle.line_layout.proofs.LineStarts.{starts_at, start_le}
use Rattle.stage_step.specs.Step.{process_at}
use Rattle.top_stages.specs.Tops.{top_at, tops_record}
use Rattle.top_stages.proofs.TopStages.{places_at, top_past, top_le, tops_few}
use Rattle.line.specs.Frames.{frame_at}
use Rattle.chain.specs.Chain.{stretch, replaced, state, Ready, May, stepped}

-- ---- where top stage k lies: at the places from i up to e, its lines from a up to b

module _ (setup : Setup) (k : ℕ) (starts tops : List ℕ) (s : State Float Held) where
  abbrev pub i : ℕ
  i = get_or tops k 0

  abbrev pub e : ℕ
  e = get_or tops (k + 1) 0

  pub record Located : Type 0 where
    pub known : k < places
    pub i_is : i ≡ top_at setup k
    pub e_is : e ≡ top_at setup (suc k)
    pub some : i < e
    pub inside : e ≤ places
    pub a_is : get_or starts i 0 ≡ start_of setup i
    pub b_is : get_or starts e 0 ≡ start_of setup e
    pub starts_is : starts ≡ starts_of setup
    pub lines : get_or starts i 0 ≤ get_or starts e 0
    pub in_store : get_or starts e 0 ≤ length s.held.store
    pub in_positions : place_positions * e ≤ length s.held.positions
    pub in_floats : place_floats * e ≤ length s.held.floats
    pub in_samples : 2 * at s k + 2 ≤ length s.samples

pub located : (setup : Setup) (k : ℕ) (starts tops : List ℕ) (s : State Float Held) → starts ≡ starts_of setup → tops ≡ (tops_record setup).places
    → Ready setup s → May setup s k → Located setup k starts tops s
unfolding tops_record
located setup k starts tops s p q r m = record {
  known = omega (arith, tops_few setup);
  i_is = i_is;
  e_is = e_is;
  some = omega (arith, i_is, e_is, top_past setup k m.inside);
  inside = e_in;
  a_is = a_is;
  b_is = b_is;
  starts_is = p;
  lines = omega (arith, a_is, b_is, start_le setup i₀ e₀ ie);
  in_store = omega (arith, b_is, start_le setup e₀ (used_of setup) ec, r.held.store);
  in_positions = omega (arith, ec, r.held.positions);
  in_floats = omega (arith, ec, r.held.floats);
  in_samples = omega (arith, r.samples, m.room);
}
  where
    i₀ : ℕ
    i₀ = get_or tops k 0

    e₀ : ℕ
    e₀ = get_or tops (k + 1) 0

    i_is : i₀ ≡ top_at setup k
    i_is = places_at setup q k (omega (arith, m.inside))

    e_is : e₀ ≡ top_at setup (suc k)
    e_is = places_at setup q (k + 1) (omega (arith, m.inside)) ∙ ap (top_at setup) (add-one k)

    ec : e₀ ≤ used_of setup
    ec = omega (arith, e_is, top_le setup (suc k))

    ie : i₀ ≤ e₀
    ie = omega (arith, i_is, e_is, top_past setup k m.inside)

    e_in : e₀ ≤ places
    e_in = omega (arith, ec)

    a_is : get_or starts i₀ 0 ≡ start_of setup i₀
    a_is = starts_at setup p i₀ (omega (arith, ie, e_in))

    b_is : get_or starts e₀ 0 ≡ start_of setup e₀
    b_is = starts_at setup p e₀ e_in

-- ---- the stretches of one top stage, lent and back

abbrev pub mid : {A : Type 0} → ℕ → ℕ → List A → List A → List A
mid a b ys xs = take a xs ++ (ys ++ drop (b - a) (drop a xs))

mid_is : {A : Type 0} (a b : ℕ) (ys xs : List A) → length ys ≡ b - a → mid a b ys xs ≡ splice a ys xs
mid_is a b ys xs p = rw p

module _ (setup : Setup) (i e a b : ℕ) (p : a ≡ start_of setup i) (q : b ≡ start_of setup e) (st fl : List Float) (po : List ℕ) where
  lent : holds (part a (b - a) st) (part (place_positions * i) (place_positions * e - place_positions * i) po) (part (place_floats * i) (place_floats * e - place_floats * i) fl) ≡ stretch setup i e (holds st po fl)
  unfolding stretch
  lent = rw (p, q)

  back : (m : Held) → length m.store ≡ b - a → length m.positions ≡ place_positions * e - place_positions * i → length m.floats ≡ place_floats * e - place_floats * i
      → holds (mid a b m.store st) (mid (place_positions * i) (place_positions * e) m.positions po) (mid (place_floats * i) (place_floats * e) m.floats fl) ≡ replaced setup i m (holds st po fl)
  unfolding replaced
  back m u v w =
      rw (mid_is a b m.store st u, mid_is (place_positions * i) (place_positions * e) m.positions po v, mid_is (place_floats * i) (place_floats * e) m.floats fl w, p)

-- ---- a frame of the samples, read and written

pair_in_lem : {A : Type 0} (f : ℕ) (u v : A) (xs : List A) → f + 2 ≤ length xs → set (set xs f u) (suc f) v ≡ splice f (u ∷ (v ∷ [])) xs
pair_in_lem zero u v [] h = absurd (omega arith)
pair_in_lem zero u v (x ∷ []) h = absurd (omega arith)
pair_in_lem zero u v (x ∷ (y ∷ xs)) h = refl
pair_in_lem (suc f) u v [] h = absurd (omega arith)
pair_in_lem {A} (suc f) u v (x ∷ xs) h = ap {B = List A} (λ r. x ∷ r) (pair_in_lem f u v xs (omega arith))

frame_out : (f : ℕ) (xs : List Float) → frame_at 0 (part f 2 xs) ≡ record { left = get_or xs f nan; right = get_or xs (f + 1) nan }
unfolding frame_at
frame_out f xs = λ t. record { left = x t; right = y t }
  where
    x : get_or (part f 2 xs) 0 nan ≡ get_or xs f nan
    x = get_or-take 2 (drop f xs) 0 nan (omega arith) ∙ get_or-drop f xs 0 nan ∙ ap (λ n. get_or xs n nan) (omega arith)

    y : get_or (part f 2 xs) 1 nan ≡ get_or xs (f + 1) nan
    y = get_or-take 2 (drop f xs) 1 nan (omega arith) ∙ get_or-drop f xs 1 nan

-- ---- the whole step

module _ (setup : Setup) (k : ℕ) (xs st fl : List Float) (po pr : List ℕ) where
  abbrev d : ℕ
  d = get_or pr k 0

  -- what top stage k makes of its next frame and of what it holds
  abbrev made : Ran
  made = process_at setup (starts_of setup) (top_at setup k) (top_at setup (suc k)) (ran (frame_at 0 (part (d * 2) 2 xs)) (stretch setup (top_at setup k) (top_at setup (suc k)) (holds st po fl)))

  -- frame d, and what the code lends, made into y and m
  module _ (starts : List ℕ) (i e a b f : ℕ) (y : Frame) (m : Held) where
    abbrev lent_to : Ran
    lent_to = ran (record { left = get_or xs f nan; right = get_or xs (f + 1) nan }) (holds (part a (b - a) st) (part (place_positions * i) (place_positions * e - place_positions * i) po) (part (place_floats * i) (place_floats * e - place_floats * i) fl))

    pub advance_is : i ≡ top_at setup k → e ≡ top_at setup (suc k) → a ≡ start_of setup i → b ≡ start_of setup e → starts ≡ starts_of setup → f ≡ d * 2
        → f + 2 ≤ length xs → length m.store ≡ b - a → length m.positions ≡ place_positions * e - place_positions * i → length m.floats ≡ place_floats * e - place_floats * i
        → ran y m ≡ process_at setup starts i e lent_to
        → state (set (set xs f y.left) (f + 1) y.right) (mid a b m.store st) (mid (place_positions * i) (place_positions * e) m.positions po) (mid (place_floats * i) (place_floats * e) m.floats fl) (set pr k (d + 1))
        ≡ stepped setup k (state xs st po fl pr)
    unfolding step put out
    advance_is is es p q ss fs h u v w r =
        λ t. record {
          samples = (one ∙ ap (λ (r : Ran). splice (d * 2) (r.frame.left ∷ (r.frame.right ∷ [])) xs) same) t;
          held = (back setup i e a b p q st fl po m u v w ∙ two) t;
          progress = set pr k (add-one d t);
        }
      where
        same : ran y m ≡ made
        same = r ∙ rw (lent setup i e a b p q st fl po, ← frame_out f xs, ss, fs, is, es)

        one : set (set xs f y.left) (f + 1) y.right ≡ splice (d * 2) (y.left ∷ (y.right ∷ [])) xs
        one = rw (add-one f, pair_in_lem f y.left y.right xs h, fs)

        two : replaced setup i m (holds st po fl) ≡ replaced setup (top_at setup k) made.held (holds st po fl)
        two = rw is (ap (λ (r : Ran). replaced setup (top_at setup k) r.held (holds st po fl)) same)
