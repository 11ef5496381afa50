-- The reverb's definition, one level at a time. To unfold `reverb_of` opens all that it stands on; to rewrite by these opens one level and leaves the others shut. Assumes nothing.
use Rattle.std.proofs.Common.{◌≡◌, refl, Bool, ◌&&◌, cond, List, ℕ, leb, Float, length, take, drop}
use Rattle.std.specs.Float.{binary32}
use lib.Ieee.{add, mul}
use Rattle.std.specs.List.{sum}
use Rattle.float.specs.Literal.{literal}
use Rattle.frame.specs.declared.Frame.{Frame}
use Rattle.frame.specs.Mix.{mix_of}
use Rattle.line.specs.Held.{Held, front, back, joined, Ran, ran}
use Rattle.reverb_tuning.specs.Tuning.{comb_count, line_count, reverb_lines, reverb_floats}
use Rattle.reverb.specs.Reverb.{Heard, heard, comb_of, pass_of, lines_in_turn, side_of, width_of, reverbed, reverb_of}

abbrev pub mono : Frame → Float
mono x = mul binary32 (add binary32 x.left x.right) (literal binary32 15 1000)

-- a frame and what its two sides gave
unfoldable pub sides : Float → Float → Frame → Heard → Heard → Ran
sides width mix x left right = ran (mix_of (width_of left.out right.out width) x mix) (joined left.held right.held)

-- is there room for a reverb?
abbrev pub fits : ℕ → Held → Bool
fits rate h = leb (reverb_floats rate) (length h.store) && leb line_count (length h.positions) && leb comb_count (length h.floats)

-- eight combs and then four all-passes
abbrev pub side : List ℕ → List ℕ → Float → Float → Float → Held → Heard
side eight four feedback damping x h = lines_in_turn 1 (comb_of feedback damping x) (lines_in_turn 0 pass_of heard four) eight (literal binary32 0 1) h

pub side_is : (lines : List ℕ) (feedback damping x : Float) (h : Held) → side_of lines feedback damping x h ≡ side (take 8 lines) (drop 8 lines) feedback damping x h
unfolding side_of
side_is lines feedback damping x h = refl

module _ (rate : ℕ) (feedback damping width mix : Float) (r : Ran) where
  pub reverbed_is : reverbed rate feedback damping width mix r
      ≡ sides width mix r.frame
      (side_of (take 12 (reverb_lines rate)) feedback damping (mono r.frame) (front (sum (take 12 (reverb_lines rate))) 12 8 r.held))
      (side_of (drop 12 (reverb_lines rate)) feedback damping (mono r.frame) (back (sum (take 12 (reverb_lines rate))) 12 8 r.held))
  unfolding reverbed sides
  reverbed_is = refl

  pub reverb_is : reverb_of rate feedback damping width mix r ≡ cond (fits rate r.held) (reverbed rate feedback damping width mix r) r
  unfolding reverb_of
  reverb_is = refl
