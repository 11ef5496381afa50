-- What a list place holds is held by an effect: lines, sides of a reverb, frames and spare memories, built from stretches of the right sizes. Assumes nothing.
use Rattle.std.proofs.Common.{◌≡◌, refl, ap, sym, ◌∙◌, List, [], ◌∷◌, ◌++◌, map, append-nil, ℕ, zero, suc, ◌+◌, ◌*◌, ◌<◌, arith, Float, length, get_or, take, drop, length-take, length-drop, take-append-drop, drop_of_length-le, length-take-le, take_all, drop-cons, get_or-take, get_or-drop, take_at, drop_at}
use lib.ListN.{length-map}
use Rattle.frame.specs.declared.Frame.{Frame}
use Rattle.integrators.specs.declared.Integrators.{Integrators}
use Rattle.line.specs.Held.{Held, holds, front, back, joined}
use Rattle.reverb_tuning.specs.Tuning.{side_combs, side_lines, comb_count, line_count, reverb_lines}
use Rattle.std.specs.List.{sum}
use Rattle.std.proofs.lemmas.List.Sums.{sum_by-cons, sum_by-append, sum_by-take-drop}
use Rattle.memories.specs.Sizes.{place_positions, place_floats}
use Rattle.theory_steps.proofs.Moved.{OnLines}
use Rattle.theory_effects.specs.Line.{Line, line, buffer, position}
use Rattle.theory_effects.specs.Effects.{Comb, Side, Spare}
use Rattle.theory_effects.specs.Standing.{side_by_side, lines_held, combs_held, side_held, spare_held, memory_held, FullSide, FullPlace}
use Rattle.theory_effects.proofs.SideLengths.{Lengths, left_full, right_full}
use Rattle.theory_effects.proofs.Joined.{HeldSizes}

-- ---- a front and the rest

pub parted : (n p f : ℕ) (h : Held) → joined (front n p f h) (back n p f h) ≡ h
unfolding front back joined
parted n p f h = λ t. record {
  store = take-append-drop n h.store t;
  positions = take-append-drop p h.positions t;
  floats = take-append-drop f h.floats t;
}

module _ (n p f m q g : ℕ) (h : Held) (s : HeldSizes (n + m) (p + q) (f + g) h) where
  pub front_sizes : HeldSizes n p f (front n p f h)
  unfolding front
  front_sizes = record {
    store = length-take-le n h.store (omega (arith, s.store));
    positions = length-take-le p h.positions (omega (arith, s.positions));
    floats = length-take-le f h.floats (omega (arith, s.floats));
  }

  pub back_sizes : HeldSizes m q g (back n p f h)
  unfolding back
  back_sizes = record {
    store = omega (arith, length-drop n h.store, s.store);
    positions = omega (arith, length-drop p h.positions, s.positions);
    floats = omega (arith, length-drop f h.floats, s.floats);
  }

empty : {A : Type 0} (xs : List A) → length xs ≡ 0 → xs ≡ []
empty xs e = drop_of_length-le xs {i = 0} (omega arith)

pub nothing_held : (h : Held) → HeldSizes 0 0 0 h → holds [] [] [] ≡ h
nothing_held h s = λ t. holds (sym (empty h.store s.store) t) (sym (empty h.positions s.positions) t) (sym (empty h.floats s.floats) t)

-- ---- one line, and lines one after another

on_line : {A : Type 0} (xs : List A) (p : ℕ) → p < length xs → (l : Line A) × (buffer l ≡ xs) × (position l ≡ p)
on_line [] p h = absurd (omega arith)
on_line (x ∷ xs) zero h = (line [] x xs, refl, refl)
on_line (x ∷ xs) (suc p) h =
    let r = on_line xs p (omega arith) in
    (line (x ∷ r.0.before) r.0.here r.0.after, ap (λ ys. x ∷ ys) r.1, ap suc r.2)

-- the first k lines and their positions, and the rest
on_front : (k : ℕ) (ns ps : List ℕ) → OnLines ns ps → OnLines (take k ns) (take k ps)
on_front k ns ps on j h =
    let few : j < k = omega (arith, length-take k ns) in
    rw (get_or-take k ps j 0 few, get_or-take k ns j 0 few) (on j (omega (arith, length-take k ns)))

on_back : (k : ℕ) (ns ps : List ℕ) → OnLines ns ps → OnLines (drop k ns) (drop k ps)
on_back k ns ps on j h = rw (get_or-drop k ps j 0, get_or-drop k ns j 0) (on (k + j) (omega (arith, length-drop k ns)))

abbrev lengths : List (Line Float) → List ℕ
lengths ls = map (λ (l : Line Float). length (buffer l)) ls

lines_of : (ns : List ℕ) (store : List Float) (ps : List ℕ) → length store ≡ sum ns → length ps ≡ length ns → OnLines ns ps
    → (ls : List (Line Float)) × (lines_held ls ≡ holds store ps []) × (lengths ls ≡ ns)
unfolding lines_held joined
lines_of [] store [] s q on = ([], ap (λ xs. holds xs [] []) (sym (empty store s)), refl)
lines_of [] store (p ∷ ps) s q on = absurd (omega arith)
lines_of (n ∷ ns) store [] s q on = absurd (omega arith)
lines_of (n ∷ ns) store (p ∷ ps) s q on =
    let both : length store ≡ n + sum ns = omega (arith, s, sum_by-cons (λ (m : ℕ). m) n ns) in
    let own : length (take n store) ≡ n = length-take-le n store (omega (arith, both)) in
    let l = on_line (take n store) p (omega (arith, own, on 0 (omega arith))) in
    let r = lines_of ns (drop n store) ps (omega (arith, both, length-drop n store)) (omega arith) (λ k h. on (suc k) (omega arith)) in (
      l.0 ∷ r.0,
      (λ t. joined (holds (l.1 t) (l.2 t ∷ []) []) (r.1 t)) ∙ ap (λ xs. holds xs (p ∷ ps) []) (take-append-drop n store),
      λ t. (ap length l.1 ∙ own) t ∷ r.2 t,
    )

-- the combs of these lines, with a `filter_store` each
combs_on : (ls : List (Line Float)) (fs : List Float) → length fs ≡ length ls
    → (cs : List Comb) × (combs_held cs ≡ holds (lines_held ls).store (lines_held ls).positions fs) × (map (λ (c : Comb). length (buffer c.line)) cs ≡ lengths ls)
unfolding combs_held lines_held joined
combs_on [] [] e = ([], refl, refl)
combs_on [] (f ∷ fs) e = absurd (omega arith)
combs_on (l ∷ ls) [] e = absurd (omega arith)
combs_on (l ∷ ls) (f ∷ fs) e =
    let r = combs_on ls fs (omega arith) in (
      record { line = l; filter_store = f } ∷ r.0,
      ap (joined (holds (buffer l) (position l ∷ []) (f ∷ []))) r.1,
      ap (λ ns. length (buffer l) ∷ ns) r.2,
    )

combs_of : (ns : List ℕ) (h : Held) → HeldSizes (sum ns) (length ns) (length ns) h → OnLines ns h.positions
    → (cs : List Comb) × (combs_held cs ≡ h) × (map (λ (c : Comb). length (buffer c.line)) cs ≡ ns)
combs_of ns h s on =
    let r = lines_of ns h.store h.positions s.store s.positions on in
    let c = combs_on r.0 h.floats (omega (arith, s.floats, ap length r.2, length-map r.0 (λ (l : Line Float). length (buffer l)))) in
    (c.0, c.1 ∙ ap (λ (g : Held). holds g.store g.positions h.floats) r.1, c.2 ∙ r.2)

-- ---- a side of a reverb, and both

side_of_lem : (ns : List ℕ) (h : Held) → length ns ≡ side_lines → HeldSizes (sum ns) side_lines side_combs h → OnLines ns h.positions
    → (side : Side) × (side_held side ≡ h) × Lengths ns side
unfolding side_held front back
side_of_lem ns h n s on =
    let few : length (take side_combs ns) ≡ side_combs = length-take-le side_combs ns (omega arith) in
    let split = sum_by-take-drop (λ (m : ℕ). m) ns side_combs in
    let z : HeldSizes (sum (take side_combs ns) + sum (drop side_combs ns)) (side_combs + 4) (side_combs + 0) h = record { store = omega (arith, s.store); positions = s.positions; floats = s.floats } in
    let a = front (sum (take side_combs ns)) side_combs side_combs h in
    let b = back (sum (take side_combs ns)) side_combs side_combs h in
    let za = front_sizes _ side_combs side_combs _ 4 0 h z in
    let zb = back_sizes _ side_combs side_combs _ 4 0 h z in
    let c = combs_of (take side_combs ns) a (rw few za) (on_front side_combs ns h.positions on) in
    let l = lines_of (drop side_combs ns) b.store b.positions zb.store (omega (arith, zb.positions, length-drop side_combs ns)) (on_back side_combs ns h.positions on) in (
      record { combs = c.0; passes = l.0 },
      (λ t. joined (c.1 t) ((l.1 ∙ ap (holds b.store b.positions) (sym (empty b.floats zb.floats))) t)) ∙ parted (sum (take side_combs ns)) side_combs side_combs h,
      record { combs = c.2; passes = l.2 },
    )

module _ (n : ℕ) (ls rs ps : List ℕ) (e : length ls ≡ n) (on : OnLines (ls ++ rs) ps) where
  on_left : OnLines ls (take n ps)
  on_left = rw (take_at ls rs n e) at (on_front n (ls ++ rs) ps on)

  on_right : OnLines rs (drop n ps)
  on_right = rw (drop_at ls rs n e) at (on_back n (ls ++ rs) ps on)

-- a reverb's own: both sides, and what is left of its place's memories
sides_of : (ls rs : List ℕ) (h : Held) → length ls ≡ side_lines → length rs ≡ side_lines → HeldSizes (sum (ls ++ rs)) place_positions place_floats h → OnLines (ls ++ rs) h.positions
    → (left : Side) × (right : Side) × (spare : Spare) × (joined (side_held left) (joined (side_held right) (spare_held spare)) ≡ h) × Lengths ls left × Lengths rs right × FullPlace line_count comb_count spare
unfolding front back
sides_of ls rs h p q s on =
    let z : HeldSizes (sum ls + sum rs) (side_lines + side_lines) (side_combs + 12) h = record { store = s.store ∙ sum_by-append (λ (m : ℕ). m) ls rs; positions = s.positions; floats = s.floats } in
    let a = front (sum ls) side_lines side_combs h in
    let b = back (sum ls) side_lines side_combs h in
    let zb = back_sizes (sum ls) side_lines side_combs (sum rs) side_lines 12 h z in
    let y : HeldSizes (sum rs + 0) (side_lines + 0) (side_combs + 4) b = record { store = omega (arith, zb.store); positions = zb.positions; floats = zb.floats } in
    let c = front (sum rs) side_lines side_combs b in
    let d = back (sum rs) side_lines side_combs b in
    let zd = back_sizes (sum rs) side_lines side_combs 0 0 4 b y in
    let l = side_of_lem ls a p (front_sizes (sum ls) side_lines side_combs (sum rs) side_lines 12 h z) (on_left side_lines ls rs h.positions p on) in
    let r = side_of_lem rs c q (front_sizes (sum rs) side_lines side_combs 0 0 4 b y) (rw (take_all side_lines b.positions (omega (arith, zb.positions))) (on_right side_lines ls rs h.positions p on)) in (
      l.0,
      r.0,
      record { positions = d.positions; floats = d.floats },
      (λ t. joined (l.1 t) (((λ t. joined (r.1 t) (holds (sym (empty d.store zd.store) t) d.positions d.floats)) ∙ parted (sum rs) side_lines side_combs b) t)) ∙ parted (sum ls) side_lines side_combs h,
      l.2,
      r.2,
      record { positions_are = omega (arith, zd.positions); floats_are = omega (arith, zd.floats) },
    )

pub reverb_of_lem : (rate : ℕ) (h : Held) → HeldSizes (sum (reverb_lines rate)) place_positions place_floats h → OnLines (reverb_lines rate) h.positions
    → (left : Side) × (right : Side) × (spare : Spare) × (joined (side_held left) (joined (side_held right) (spare_held spare)) ≡ h)
    × FullSide rate 0 left × FullSide rate 23 right × FullPlace line_count comb_count spare
unfolding reverb_lines
reverb_of_lem rate h s on =
    let r = sides_of (take side_lines (reverb_lines rate)) (drop side_lines (reverb_lines rate)) h refl refl s on in
    (r.0, r.1, r.2, r.3, left_full rate r.0 r.4, right_full rate r.1 r.5, r.6)

-- ---- a place without lines, a place with two remembered frames, and a delay's

pub plain_of : (h : Held) → HeldSizes 0 place_positions place_floats h → (spare : Spare) × (spare_held spare ≡ h) × FullPlace 0 0 spare
plain_of h s = (
  record { positions = h.positions; floats = h.floats },
  ap (λ xs. holds xs h.positions h.floats) (sym (empty h.store s.store)),
  record { positions_are = omega (arith, s.positions); floats_are = omega (arith, s.floats) },
)

frames_of_lem : (n : ℕ) (xs : List Float) → length xs ≡ 2 * n → (frames : List Frame) × (side_by_side frames ≡ xs) × (length frames ≡ n)
unfolding side_by_side
frames_of_lem zero xs e = ([], sym (empty xs e), refl)
frames_of_lem (suc n) [] e = absurd (omega arith)
frames_of_lem (suc n) (x ∷ []) e = absurd (omega arith)
frames_of_lem (suc n) (x ∷ (y ∷ xs)) e =
    let r = frames_of_lem n xs (omega arith) in
    (record { left = x; right = y } ∷ r.0, ap (λ zs. x ∷ (y ∷ zs)) r.1, ap suc r.2)

two_frames : (frames : List Frame) → length frames ≡ 2 → (memory : Integrators) × (memory_held memory ≡ holds [] [] (side_by_side frames))
unfolding memory_held
two_frames [] e = absurd (omega arith)
two_frames (x ∷ []) e = absurd (omega arith)
two_frames (x ∷ (y ∷ [])) e = (record { ic1eq = x; ic2eq = y }, refl)
two_frames (x ∷ (y ∷ (z ∷ frames))) e = absurd (omega arith)

pub remembering_of : (h : Held) → HeldSizes 0 place_positions place_floats h → (memory : Integrators) × (spare : Spare) × (joined (spare_held spare) (memory_held memory) ≡ h) × FullPlace 0 4 spare
unfolding front back
remembering_of h s =
    let z : HeldSizes (0 + 0) (place_positions + 0) (comb_count + 4) h = record { store = s.store; positions = s.positions; floats = s.floats } in
    let a = front 0 place_positions comb_count h in
    let b = back 0 place_positions comb_count h in
    let za = front_sizes 0 place_positions comb_count 0 0 4 h z in
    let zb = back_sizes 0 place_positions comb_count 0 0 4 h z in
    let f = frames_of_lem 2 b.floats zb.floats in
    let m = two_frames f.0 f.2 in
    let held : memory_held m.0 ≡ b = m.1 ∙ (λ t. holds (sym (empty b.store zb.store) t) (sym (empty b.positions zb.positions) t) (f.1 t)) in (
      m.0,
      record { positions = a.positions; floats = a.floats },
      ap (joined a) held ∙ parted 0 place_positions comb_count h,
      record { positions_are = omega (arith, za.positions); floats_are = omega (arith, za.floats) },
    )

pub delay_of : (frames : ℕ) (h : Held) → HeldSizes (2 * frames) place_positions place_floats h → get_or h.positions 0 0 < frames
    → (l : Line Frame) × (spare : Spare) × (length (buffer l) ≡ frames) × (joined (holds (side_by_side (buffer l)) (position l ∷ []) []) (spare_held spare) ≡ h) × FullPlace 1 0 spare
unfolding joined
delay_of frames h s on =
    let f = frames_of_lem frames h.store s.store in
    let l = on_line f.0 (get_or h.positions 0 0) (omega (arith, f.2)) in (
      l.0,
      record { positions = drop 1 h.positions; floats = h.floats },
      ap length l.1 ∙ f.2,
      (λ t. holds ((append-nil (side_by_side (buffer l.0)) ∙ ap side_by_side l.1 ∙ f.1) t) ((ap (λ p. p ∷ drop 1 h.positions) l.2 ∙ sym (drop-cons h.positions 0 0 (omega (arith, s.positions)))) t) h.floats),
      record { positions_are = omega (arith, length-drop 1 h.positions, s.positions); floats_are = omega (arith, s.floats) },
    )
