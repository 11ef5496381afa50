-- The first of some lines, taken off the front of each stretch, and the others on the rest of it, as a recursion takes the slices apart: one law for any line. Assumes nothing.
use Rattle.std.proofs.Common.{◌≡◌, ap, List, ◌++◌, ℕ, ◌+◌, ◌≤◌, ◌<◌, add-one, Float, length, get_or, set, take, drop}
use lib.Seq.{slice, slice-cons}
use Rattle.line.specs.Held.{Held, holds, front, back, joined}
use Rattle.line.proofs.Lent.{lent, home, rest_lent, rest_home, first_lent, first_home}
use Rattle.reverb.specs.Reverb.{Heard, heard, lines_in_turn}

-- of the lines from k up to e, line k gave y and left `line`, and `own` of its floats; then the others, lent the rest, gave z and left st, po and fl
module _ (f : ℕ) (step next : Float → Held → Heard) (l : List ℕ) (k e : ℕ) (n : ℕ) (x y z : Float) (line store : List Float) (at : ℕ) (positions : List ℕ) (own floats st : List Float) (po : List ℕ) (fl : List Float) where
  pub lines_more : k < e → e ≤ length l → n ≡ get_or l k 0 → length line ≡ n
      → step x (front n 1 f (holds store positions floats)) ≡ heard y (holds line (set (take 1 positions) 0 at) own)
      → heard z (holds st po fl) ≡ lines_in_turn f step next (slice (k + 1) e l) y (holds (lent n (line ++ drop n store)) (lent 1 (set positions 0 at)) (drop f floats))
      → heard z (holds (home n (line ++ drop n store) st) (home 1 (set positions 0 at) po) (own ++ fl)) ≡ lines_in_turn f step next (slice k e l) x (holds store positions floats)
  unfolding lines_in_turn back joined
  lines_more h g n-is m first rest =
      rw (rest_home n line store m st, first_home positions at po, slice-cons k e l 0 h g, ← n-is, first)
      (ap (λ r. heard r.out (joined (holds line (set (take 1 positions) 0 at) own) r.held)) (rw (add-one k, rest_lent n line store m, first_lent positions at) at rest))
