-- A reverb that has room moves the position of each of its lines along that line, and leaves the positions after them. Assumes nothing.
use Rattle.std.proofs.Common.{◌≡◌, refl, ap, sym, ◌∙◌, Bool, true, false, cond, ◌&&◌, List, [], ◌∷◌, ◌++◌, append-nil, ℕ, zero, suc, ◌+◌, ◌-◌, ◌≤◌, ◌<◌, arith, ltb, leb, Float, length, get_or, set, take, drop, length-append, length-take, length-drop, take-append-drop, length-take-le, get_or-take, get_or-drop, get_or-append-add, drop-drop, lt-ltb, le-ltb, leb-true}
use mathlib.Core.Bool.{and-eq-true_iff}
use native.Mathlib.Decide.{dec_lt}
use lib.ListN.{get_or-append}
use lib.Seq.{drop-append-add}
use Rattle.line.specs.AllPass.{passed_of}
use Rattle.line.specs.Comb.{combed_of}
use Rattle.line.specs.Held.{Held, front, back, joined, Ran}
use Rattle.line.specs.Position.{next_position}
use Rattle.std.specs.List.{sum}
use Rattle.std.proofs.lemmas.List.Sums.{sum_by-cons, sum_by-take-drop}
use Rattle.reverb_tuning.specs.Tuning.{side_combs, side_lines, comb_count, line_count, reverb_lines, reverb_floats}
use Rattle.reverb_tuning.proofs.Tunings.{lines_length, floats_are}
use Rattle.reverb.specs.Reverb.{Heard, heard, comb_of, pass_of, lines_in_turn, side_of, reverbed, reverb_of}
use Rattle.reverb.proofs.Keeps.{side_keeps}
use Rattle.reverb.proofs.Levels.{mono, sides, side_is, reverbed_is, reverb_is}

-- ---- what holds of b, and of a where the test passes, holds of the choice

pub cond_by : {A : Type 0} (P : A → Type 0) (t : Bool) (a b : A) → (t ≡ true → P a) → P b → P (cond t a b)
cond_by P true a b p q = p refl
cond_by P false a b p q = q

-- ---- positions on lines

-- the kth position is below the length of the kth line
abbrev pub OnLines : List ℕ → List ℕ → Type 0
OnLines lines ps = (k : ℕ) → k < length lines → get_or ps k 0 < get_or lines k 0

abbrev Positive : List ℕ → Type 0
Positive lines = (k : ℕ) → k < length lines → 0 < get_or lines k 0

pub next_on : (at n : ℕ) → 0 < n → next_position at n < n
unfolding next_position
next_on at n h = go (dec_lt (at + 1) n)
  where
    go : Dec (at + 1 < n) → cond (ltb (at + 1) n) (at + 1) 0 < n
    go (yes g) = rw (lt-ltb (at + 1) n g) g
    go (no g) = let k : n ≤ at + 1 = omega arith in rw (le-ltb (at + 1) n k) h

-- the line that is lent is n long
next_taken : {A : Type 0} (at n : ℕ) (store : List A) → n ≤ length store → 0 < n → next_position at (length (take n store)) < n
next_taken at n store h g = rw (length-take-le n store h) (next_on at n g)

-- ---- the positions of some lines are on them, and those after them are as they were

pub record Moved (lines before after : List ℕ) : Type 0 where
  pub on : OnLines lines after
  pub rest : drop (length lines) after ≡ drop (length lines) before

moved_none : (ps : List ℕ) → Moved [] ps ps
moved_none ps = record { on = λ k h. absurd (omega arith); rest = refl }

moved_more : (n : ℕ) (lines ps zs : List ℕ) (v : ℕ) → 0 < length ps → v < n → Moved lines (drop 1 ps) zs → Moved (n ∷ lines) ps (set (take 1 ps) 0 v ++ zs)
moved_more n lines [] zs v h g m = absurd (omega arith)
moved_more n lines (p ∷ ps) zs v h g m = record { on = on; rest = m.rest }
  where
    on : OnLines (n ∷ lines) (v ∷ zs)
    on zero q = g
    on (suc k) q = m.on k (omega arith)

-- one line
pub moved_first : (n v : ℕ) (ps : List ℕ) → 0 < length ps → v < n → Moved (n ∷ []) ps (set ps 0 v)
moved_first n v [] h g = absurd (omega arith)
moved_first n v (p ∷ ps) h g = moved_more n [] (p ∷ ps) ps v h g (moved_none ps)

module _ (l r ps a b : List ℕ) (e : length a ≡ length l) where
  moved_join : Moved l (take (length l) ps) a → Moved r (drop (length l) ps) b → Moved (l ++ r) ps (a ++ b)
  moved_join p q = record { on = on; rest = rest }
    where
      on : OnLines (l ++ r) (a ++ b)
      on k h = go (dec_lt k (length l))
        where
          go : Dec (k < length l) → get_or (a ++ b) k 0 < get_or (l ++ r) k 0
          go (yes g) = rw (get_or-append a b 0 k (omega arith), get_or-append l r 0 k g) (p.on k g)
          go (no g) =
              let x : k ≡ length l + (k - length l) = omega arith in
              let y : k ≡ length a + (k - length l) = omega arith in
              let z : k - length l < length r = omega (arith, length-append l r) in
              let s : get_or (a ++ b) k 0 ≡ get_or b (k - length l) 0 = ap (λ i. get_or (a ++ b) i 0) y ∙ get_or-append-add a b (k - length l) 0 in
              let t : get_or (l ++ r) k 0 ≡ get_or r (k - length l) 0 = ap (λ i. get_or (l ++ r) i 0) x ∙ get_or-append-add l r (k - length l) 0 in
              rw (s, t) (q.on (k - length l) z)

      rest : drop (length (l ++ r)) (a ++ b) ≡ drop (length (l ++ r)) ps
      rest =
          let x : length (l ++ r) ≡ length a + length r = length-append l r ∙ omega arith in
          let y : length (l ++ r) ≡ length l + length r = length-append l r in
          ap (λ i. drop i (a ++ b)) x ∙ drop-append-add a b (length r) ∙ q.rest ∙ drop-drop (length r) (length l) ps ∙ ap (λ i. drop i ps) (sym y)

module _ (n : ℕ) (lines : List ℕ) (pos : Positive lines) where
  positive_front : Positive (take n lines)
  positive_front k h =
      let g : k < n = omega (arith, length-take n lines) in
      rw (get_or-take n lines k 0 g) (pos k (omega (arith, length-take n lines)))

  positive_back : Positive (drop n lines)
  positive_back k h = rw (get_or-drop n lines k 0) (pos (n + k) (omega (arith, length-drop n lines)))

-- ---- lines in turn, where the store has room for them

abbrev Moves : List ℕ → (Float → Held → Heard) → Type 0
Moves lines f = (x : Float) (h : Held) → sum lines ≤ length h.store → length lines ≤ length h.positions → Moved lines h.positions (f x h).held.positions

-- what is left for the lines after one of n
enough_after : {A : Type 0} (n m : ℕ) (xs : List A) → n + m ≤ length xs → m ≤ length (drop n xs)
enough_after n m xs h = omega (arith, length-drop n xs)

-- a comb and an all-pass both move the position of their line along it
abbrev MovesOn : (Float → Held → Heard) → Type 0
MovesOn f = (x : Float) (h : Held) → (f x h).held.positions ≡ set h.positions 0 (next_position (get_or h.positions 0 0) (length h.store))

comb_moves_on : (feedback damping x : Float) → MovesOn (comb_of feedback damping x)
unfolding comb_of combed_of
comb_moves_on feedback damping x sum h = refl

pass_moves_on : MovesOn pass_of
unfolding pass_of passed_of
pass_moves_on x h = refl

module _ (f : ℕ) (step next : Float → Held → Heard) (on : MovesOn step) (after : List ℕ) (moves : Moves after next) where
  lines_move : (lines : List ℕ) → Positive lines → Moves (lines ++ after) (lines_in_turn f step next lines)
  unfolding lines_in_turn front back joined
  lines_move [] pos x h s p = moves x h s p
  lines_move (n ∷ ns) pos x h s p =
      let room : n + sum (ns ++ after) ≤ length h.store = omega (arith, s, sum_by-cons (λ (z : ℕ). z) n (ns ++ after)) in
      rw on
      (moved_more n (ns ++ after) h.positions _ _ (omega arith) (next_taken _ n h.store (omega arith) (pos 0 (omega arith)))
      (lines_move ns (λ k g. pos (suc k) (omega arith)) _ _ (enough_after n _ h.store room) (enough_after 1 _ h.positions (omega arith))))

-- a side's eight combs and four all-passes
side_moves : (lines : List ℕ) (feedback damping : Float) → Positive lines → Moves lines (side_of lines feedback damping)
side_moves lines feedback damping pos x h s p =
    let c = take side_combs lines in
    let a = drop side_combs lines in
    let passes = lines_move 0 pass_of heard pass_moves_on [] (λ x h s p. moved_none h.positions) a (positive_back side_combs lines pos) in
    let combs = lines_move 1 (comb_of feedback damping x) (lines_in_turn 0 pass_of heard a) (comb_moves_on feedback damping x) a (rw (append-nil a) at passes) c (positive_front side_combs lines pos) in
    rw side_is ((rw (take-append-drop side_combs lines) at combs) _ h s p)

-- ---- a reverb

module _ (rate : ℕ) (feedback damping width mix : Float) (r : Ran) where
  reverbed_moves : Positive (reverb_lines rate) → reverb_floats rate ≤ length r.held.store → line_count ≤ length r.held.positions → Moved (reverb_lines rate) r.held.positions (reverbed rate feedback damping width mix r).held.positions
  unfolding sides front back joined
  reverbed_moves pos s p =
      let lines = reverb_lines rate in
      let l = take side_lines lines in
      let m = drop side_lines lines in
      let n = sum l in
      let x = mono r.frame in
      let ps = r.held.positions in
      let all : n + sum m ≡ reverb_floats rate = sum_by-take-drop (λ (z : ℕ). z) lines side_lines ∙ sym (floats_are rate) in
      let l_size : length l ≡ side_lines = length-take-le side_lines lines (omega (arith, lines_length rate)) in
      let m_size : length m ≡ side_lines = omega (arith, length-drop side_lines lines, lines_length rate) in
      let taken : length (take side_lines ps) ≡ side_lines = length-take-le side_lines ps (omega arith) in
      let left = side_moves l feedback damping (positive_front side_lines lines pos) x (front n side_lines side_combs r.held) (omega (arith, length-take-le n r.held.store (omega arith))) (omega arith) in
      let right = side_moves m feedback damping (positive_back side_lines lines pos) x (back n side_lines side_combs r.held) (enough_after n _ r.held.store (omega arith)) (enough_after side_lines _ ps (omega arith)) in
      let a = (side_of l feedback damping x (front n side_lines side_combs r.held)).held.positions in
      let b = (side_of m feedback damping x (back n side_lines side_combs r.held)).held.positions in
      let size : length a ≡ length l = (side_keeps l feedback damping x (front n side_lines side_combs r.held)).positions ∙ taken ∙ sym l_size in
      rw reverbed_is (rw (take-append-drop side_lines lines) at (moved_join l m ps a b size (rw l_size left) (rw l_size right)))

  -- also where it has no room, and changes nothing
  pub reverb_moves : OnLines (reverb_lines rate) r.held.positions → Moved (reverb_lines rate) r.held.positions (reverb_of rate feedback damping width mix r).held.positions
  reverb_moves on =
      let s = leb (reverb_floats rate) (length r.held.store) in
      let p = leb line_count (length r.held.positions) in
      let f = leb comb_count (length r.held.floats) in
      rw reverb_is
      (cond_by (λ (z : Ran). Moved (reverb_lines rate) r.held.positions z.held.positions) (s && p && f) _ r
      (λ t.
      let room = (and-eq-true_iff s p).0 ((and-eq-true_iff (s && p) f).0 t).0 in
      reverbed_moves (λ k h. omega (arith, on k h)) (leb-true _ _ room.0) (leb-true _ _ room.1))
      record { on = on; rest = refl })
