-- A reverb's two sides, as the code takes the slices apart, and a reverb that has no room. Assumes nothing.
use Rattle.std.proofs.Common.{◌≡◌, List, ◌++◌, ℕ, ◌+◌, ◌≤◌, ◌<◌, Float, length, take, drop, length-drop, length-append, take-append-drop, length-take-le, le-leb, arith}
use lib.Seq.{slice}
use borrow.Author.Rules.{part_to_end}
use borrow.Author.Tests.{lt-leb}
use Rattle.std.specs.List.{sum}
use Rattle.std.proofs.lemmas.List.{take-take, drop-take, drop-drop}
use Rattle.std.proofs.lemmas.List.Sums.{sum_by-take-drop}
use Rattle.frame.specs.declared.Frame.{Frame}
use Rattle.frame.specs.Mix.{mix_of}
use Rattle.line.specs.Held.{Held, holds, front, back, joined, Ran, ran}
use Rattle.line.proofs.Lent.{lent, home, home_again, rest_lent, rest_home}
use Rattle.reverb_tuning.specs.Tuning.{line_count, reverb_lines, reverb_floats}
use Rattle.reverb.specs.Reverb.{Heard, heard, side_of, width_of, reverb_of}
use Rattle.reverb.proofs.Levels.{mono, sides, side, side_is, reverbed_is, reverb_is}

-- a side's lines, which begin with line `first`: eight combs, then four all-passes
module _ (rate first : ℕ) where
  eight_are : take 8 (slice first (first + 12) (reverb_lines rate)) ≡ slice first (first + 8) (reverb_lines rate)
  eight_are = rw (drop-take first 12 (reverb_lines rate), drop-take first 8 (reverb_lines rate)) (take-take 8 12 (drop first (reverb_lines rate)) (omega arith))

  four_are : drop 8 (slice first (first + 12) (reverb_lines rate)) ≡ slice (first + 8) (first + 8 + 4) (reverb_lines rate)
  four_are = let e : first + 8 + 4 ≡ first + 12 = omega arith in rw e (drop-drop 8 first (take (first + 12) (reverb_lines rate)))

  pub side_floats : sum (slice first (first + 8) (reverb_lines rate)) + sum (slice (first + 8) (first + 8 + 4) (reverb_lines rate)) ≡ sum (slice first (first + 12) (reverb_lines rate))
  side_floats = rw (← eight_are, ← four_are) (sum_by-take-drop (λ n. n) (slice first (first + 12) (reverb_lines rate)) 8)

  pub side_lines_are : (feedback damping x : Float) (h : Held)
      → side_of (slice first (first + 12) (reverb_lines rate)) feedback damping x h ≡ side (slice first (first + 8) (reverb_lines rate)) (slice (first + 8) (first + 8 + 4) (reverb_lines rate)) feedback damping x h
  side_lines_are feedback damping x h = rw (side_is, eight_are, four_are)

-- the all-passes, lent what follows the combs' part, gave z and left st and po
pub side_done : (next : Float → Held → Heard) (start : ℕ) (x z : Float) (store : List Float) (positions : List ℕ) (floats st : List Float) (po : List ℕ)
    → heard z (holds st po (drop 8 floats)) ≡ next x (holds (lent start store) (lent 8 positions) (drop 8 floats))
    → heard z (holds (home start store st) (home 8 positions po) floats)
    ≡ (let r = next x (back start 8 8 (holds store positions floats)) in heard r.out (joined (front start 8 8 (holds store positions floats)) r.held))
unfolding front back joined
side_done next start x z store positions floats st po gave =
    let gave' : heard z (holds st po (drop 8 floats)) ≡ next x (holds (drop start store) (drop 8 positions) (drop 8 floats)) = rw (part_to_end store start, part_to_end positions 8) at gave in
    rw (home_again start store st, home_again 8 positions po, ← gave', take-append-drop 8 floats)

-- a stretch is as long as before while its front is lent
pub whole : {A : Type 0} (n : ℕ) (line store : List A) → n ≤ length store → length line ≡ length (take n store) → length (line ++ drop n store) ≡ length store
whole n line store h same = omega (arith, same, length-take-le n store h, length-drop n store, length-append line (drop n store))

module _ (rate : ℕ) (feedback damping width mix : Float) where
  module _ (r : Ran) where
    pub no_store : length r.held.store < reverb_floats rate → r ≡ reverb_of rate feedback damping width mix r
    no_store s = rw (reverb_is, lt-leb _ _ s)

    pub no_positions : reverb_floats rate ≤ length r.held.store → length r.held.positions < line_count → r ≡ reverb_of rate feedback damping width mix r
    no_positions s p = rw (reverb_is, le-leb _ _ s, lt-leb _ _ p)

    pub no_floats : reverb_floats rate ≤ length r.held.store → line_count ≤ length r.held.positions → length r.held.floats < 16 → r ≡ reverb_of rate feedback damping width mix r
    no_floats s p f = rw (reverb_is, le-leb _ _ s, le-leb _ _ p, lt-leb _ _ f)

  -- the left side gave `left` and left a of the fronts; then the right side, lent the rests, gave `right` and left b
  module _ (n : ℕ) (x y : Frame) (store : List Float) (positions : List ℕ) (floats : List Float) (left right : Float) (a b : Held) where
    pub both_sides : reverb_floats rate ≤ length store → line_count ≤ length positions → 16 ≤ length floats → n ≡ sum (take 12 (reverb_lines rate))
        → length a.store ≡ n → length a.positions ≡ 12 → length a.floats ≡ 8
        → heard left a ≡ side_of (take 12 (reverb_lines rate)) feedback damping (mono x) (holds (take n store) (take 12 positions) (take 8 floats))
        → heard right b
        ≡ side_of (drop 12 (reverb_lines rate)) feedback damping (mono x)
        (holds (lent n (a.store ++ drop n store)) (lent 12 (a.positions ++ drop 12 positions)) (lent 8 (a.floats ++ drop 8 floats)))
        → y ≡ mix_of (width_of left right width) x mix
        → ran y (holds (home n (a.store ++ drop n store) b.store) (home 12 (a.positions ++ drop 12 positions) b.positions) (home 8 (a.floats ++ drop 8 floats) b.floats))
        ≡ reverb_of rate feedback damping width mix (ran x (holds store positions floats))
    unfolding front back joined sides
    both_sides s p f e ls lp lf l r m =
        let r' : heard right b ≡ side_of (drop 12 (reverb_lines rate)) feedback damping (mono x) (holds (drop n store) (drop 12 positions) (drop 8 floats)) =
        rw (rest_lent n a.store store ls, rest_lent 12 a.positions positions lp, rest_lent 8 a.floats floats lf) at r in
        rw (reverb_is, le-leb _ _ s, le-leb _ _ p, le-leb _ _ f, reverbed_is, m, rest_home n a.store store ls b.store, rest_home 12 a.positions positions lp b.positions, rest_home 8 a.floats floats lf b.floats, ← e, ← l, ← r')
