-- Lines one after another, as a loop runs them: some are done, and the others are still to run on what is left of each stretch. Assumes nothing.
use Rattle.std.proofs.Common.{◌≡◌, refl, sym, ap, ◌∙◌, List, [], append_assoc, ℕ, ◌+◌, ◌≤◌, ◌<◌, add-one, arith, Float, length, get_or, set, take, drop, drop_of_length-le, length-drop, length-set, take-append-drop, length-take-le, drop-cons, get_or-take}
use Rattle.std.specs.Float.{nan, binary32}
use lib.Ieee.{add}
use lib.Seq.{slice}
use borrow.Rule.Slice.PartMut.{put_mid, set_mid_at}
use Rattle.std.proofs.lemmas.List.{drop-drop, get_or-drop}
use Rattle.std.specs.List.{sum}
use Rattle.std.proofs.lemmas.List.Sums.{sum_by_more, sum_by_more_le}
use Rattle.std.proofs.lemmas.Slice.{take-put_mid, drop-put_mid}
use Rattle.line.specs.declared.all_pass.Passed.{Passed}
use Rattle.line.specs.declared.comb.Combed.{Combed}
use Rattle.line.specs.AllPass.{passed_of, pass_line_of}
use Rattle.line.specs.Comb.{combed_of, comb_line_of}
use Rattle.line.specs.Held.{Held, holds, front, back, joined}
use Rattle.reverb_tuning.specs.Tuning.{line_count, reverb_lines}
use Rattle.reverb_tuning.proofs.Tunings.{lines_length}
use Rattle.reverb.specs.Reverb.{Heard, heard, comb_of, pass_of, lines_in_turn}

-- ---- what is held, where p came in the place of what follows the first a, b and c

joined_assoc : (a b c : Held) → joined a (joined b c) ≡ joined (joined a b) c
unfolding joined
joined_assoc a b c = rw (append_assoc a.store b.store c.store, append_assoc a.positions b.positions c.positions, append_assoc a.floats b.floats c.floats)

-- as much as a line has: n floats of the store, a position and f floats
module _ (start k own n f : ℕ) (h p : Held) where
  abbrev pub renewed : Held
  renewed = holds (put_mid start n h.store p.store) (put_mid k 1 h.positions p.positions) (put_mid own f h.floats p.floats)

  module _ (s : start ≤ length h.store) (t : k ≤ length h.positions) (u : own ≤ length h.floats) (ls : length p.store ≡ n) (lp : length p.positions ≡ 1) (lf : length p.floats ≡ f) where
    front_renewed : front (start + n) (k + 1) (own + f) renewed ≡ joined (front start k own h) p
    unfolding front joined
    front_renewed = rw (take-put_mid start n h.store p.store (start + n) (omega (arith, ls)) s, take-put_mid k 1 h.positions p.positions (k + 1) (omega (arith, lp)) t, take-put_mid own f h.floats p.floats (own + f) (omega (arith, lf)) u)

    back_renewed : back (start + n) (k + 1) (own + f) renewed ≡ back n 1 f (back start k own h)
    unfolding back
    back_renewed = rw (drop-put_mid start n h.store p.store (start + n) (omega arith) s ls, drop-put_mid k 1 h.positions p.positions (k + 1) (omega arith) t lp, drop-put_mid own f h.floats p.floats (own + f) (omega arith) u lf, drop-drop n start h.store, drop-drop 1 k h.positions, drop-drop f own h.floats)

-- ---- lines in turn

module _ (f : ℕ) (step next : Float → Held → Heard) (lines : List ℕ) where
  -- the lines from k on are still to run, with x; of the stretches that much is done
  unfoldable pub still : ℕ → ℕ → ℕ → Float → Held → Heard
  still k start own x h =
      let r = lines_in_turn f step next (drop k lines) x (back start k own h) in
      heard r.out (joined (front start k own h) r.held)

  pub still_all : (x : Float) (h : Held) → lines_in_turn f step next lines x h ≡ still 0 0 0 x h
  unfolding still front back joined
  still_all x h = refl

  -- line k gave y and left p of what is its own
  pub still_more : (k start own n : ℕ) (x y : Float) (h p : Held)
      → k < length lines → n ≡ get_or lines k 0
      → start ≤ length h.store → k ≤ length h.positions → own ≤ length h.floats
      → length p.store ≡ n → length p.positions ≡ 1 → length p.floats ≡ f
      → step x (front n 1 f (back start k own h)) ≡ heard y p
      → still k start own x h ≡ still (k + 1) (start + n) (own + f) y (renewed start k own n f h p)
  unfolding still lines_in_turn
  still_more k start own n x y h p more n-is s t u ls lp lf gave =
      rw (front_renewed start k own n f h p s t u ls lp lf, back_renewed start k own n f h p s t u ls lp lf, ← joined_assoc, drop-cons lines k 0 more, add-one, ← n-is, gave)

  -- all lines are done
  pub still_none : (k start own : ℕ) (x : Float) (h : Held) → length lines ≤ k → still k start own x h ≡ (let r = next x (back start k own h) in heard r.out (joined (front start k own h) r.held))
  unfolding still lines_in_turn
  still_none k start own x h none = rw (drop_of_length-le lines {i = k} none)

pub parted : (start k own : ℕ) (h : Held) → joined (front start k own h) (back start k own h) ≡ h
unfolding joined front back
parted start k own h = rw (take-append-drop start h.store, take-append-drop k h.positions, take-append-drop own h.floats)

-- ---- some of a reverb's lines

module _ (rate first count : ℕ) (h : first + count ≤ line_count) where
  abbrev pub some : List ℕ
  some = slice first (first + count) (reverb_lines rate)

  pub some_length : length some ≡ count
  some_length = omega (arith, length-drop first (take (first + count) (reverb_lines rate)), length-take-le (first + count) (reverb_lines rate) (omega (arith, h, lines_length rate)))

  -- line k of them has n floats, which follow those of the lines before it
  module _ (k start n : ℕ) (more : k < count) (start-is : start ≡ sum (take k some)) (read : n ≡ get_or (reverb_lines rate) (first + k) 0) where
    pub some_more : k < length some
    some_more = omega (arith, some_length)

    pub some_at : n ≡ get_or some k 0
    some_at = read ∙ sym (get_or-drop first (take (first + count) (reverb_lines rate)) k 0 ∙ get_or-take (first + count) (reverb_lines rate) (first + k) 0 (omega arith))

    pub some_reach : start + n ≡ sum (take (k + 1) some)
    some_reach = omega (arith, start-is, some_at, sum_by_more (λ n. n) some k 0 some_more)

    pub some_fit : start + n ≤ sum some
    some_fit = omega (arith, start-is, some_at, sum_by_more_le (λ n. n) some k 0 some_more)

-- ---- a comb and an all-pass, each on its own part

-- one element: its place alone is read and written
module _ {A : Type 0} (k : ℕ) (xs : List A) where
  one_read : (d : A) → get_or (take 1 (drop k xs)) 0 d ≡ get_or xs k d
  one_read d = let e : k + 0 ≡ k = omega arith in get_or-take 1 (drop k xs) 0 d (omega arith) ∙ get_or-drop k xs 0 d ∙ ap (λ (i : ℕ). get_or xs i d) e

  module _ (v : A) (h : k < length xs) where
    one_size : length (take 1 (drop k xs)) ≡ 1
    one_size = length-take-le 1 (drop k xs) (omega (arith, length-drop k xs))

    one_set_size : length (set (take 1 (drop k xs)) 0 v) ≡ 1
    one_set_size = length-set (take 1 (drop k xs)) 0 v ∙ one_size

    one_put : put_mid k 1 xs (set (take 1 (drop k xs)) 0 v) ≡ set xs k v
    one_put = let e : k + 0 ≡ k = omega arith in set_mid_at k 1 0 xs v (omega (arith, one_size)) ∙ ap (λ (i : ℕ). set xs i v) e

module _ (start k n : ℕ) (x : Float) (line store : List Float) (positions : List ℕ) (floats : List Float) where
  -- an all-pass gave q, or a comb, which adds to x
  pass_own : (q : Passed)
      → (q ≡ passed_of x (get_or positions k 0) (take n (drop start store))) × (line ≡ pass_line_of x (get_or positions k 0) (take n (drop start store)))
      → pass_of x (front n 1 0 (back start k 0 (holds store positions floats))) ≡ heard q.output (holds line (set (take 1 (drop k positions)) 0 q.at) [])
  unfolding pass_of front back
  pass_own q gave = rw (one_read k positions 0, ← gave.0, ← gave.1)

  comb_own : (feedback damping input : Float) (q : Combed)
      → (q ≡ combed_of damping (get_or positions k 0) (get_or floats k nan) (take n (drop start store)))
      × (line ≡ comb_line_of feedback damping input (get_or positions k 0) (get_or floats k nan) (take n (drop start store)))
      → comb_of feedback damping input x (front n 1 1 (back start k k (holds store positions floats)))
      ≡ heard (add binary32 x q.output) (holds line (set (take 1 (drop k positions)) 0 q.at) (set (take 1 (drop k floats)) 0 q.filter_store))
  unfolding comb_of front back
  comb_own feedback damping input q gave = rw (one_read k positions 0, one_read k floats nan, ← gave.0, ← gave.1)

  -- the same, where m says how many floats are the line's, and how long the line is that was left
  module _ (next : Float → Held → Heard) (lines : List ℕ) (more : k < length lines) (n-is : n ≡ get_or lines k 0) (room : start + n ≤ length store) (here : k < length positions) (m : ℕ) (m-is : m ≡ n) (same : length line ≡ length (take m (drop start store))) where
    size : length line ≡ n
    size = same ∙ rw m-is (length-take-le n (drop start store) (omega (arith, length-drop start store)))

    pub still_pass : (q : Passed)
        → (q ≡ passed_of x (get_or positions k 0) (take m (drop start store))) × (line ≡ pass_line_of x (get_or positions k 0) (take m (drop start store)))
        → still 0 pass_of next lines k start 0 x (holds store positions floats) ≡ still 0 pass_of next lines (k + 1) (start + n) 0 q.output (holds (put_mid start m store line) (set positions k q.at) floats)
    still_pass q gave =
        still_more 0 pass_of next lines k start 0 n x q.output (holds store positions floats) (holds line (set (take 1 (drop k positions)) 0 q.at) []) more n-is
        (omega arith) (omega arith) (omega arith) size (one_set_size k positions q.at here) refl (pass_own q (rw m-is at gave))
        ∙ rw (one_put k positions q.at here, m-is)

    pub still_comb : (feedback damping input : Float) (q : Combed) → k < length floats
        → (q ≡ combed_of damping (get_or positions k 0) (get_or floats k nan) (take m (drop start store)))
        × (line ≡ comb_line_of feedback damping input (get_or positions k 0) (get_or floats k nan) (take m (drop start store)))
        → still 1 (comb_of feedback damping input) next lines k start k x (holds store positions floats)
        ≡ still 1 (comb_of feedback damping input) next lines (k + 1) (start + n) (k + 1) (add binary32 x q.output) (holds (put_mid start m store line) (set positions k q.at) (set floats k q.filter_store))
    still_comb feedback damping input q too gave =
        still_more 1 (comb_of feedback damping input) next lines k start k n x (add binary32 x q.output) (holds store positions floats) (holds line (set (take 1 (drop k positions)) 0 q.at) (set (take 1 (drop k floats)) 0 q.filter_store)) more n-is
        (omega arith) (omega arith) (omega arith) size (one_set_size k positions q.at here) (one_set_size k floats q.filter_store too) (comb_own feedback damping input q (rw m-is at gave))
        ∙ rw (one_put k positions q.at here, one_put k floats q.filter_store too, m-is)
