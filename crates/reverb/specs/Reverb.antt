-- kira's `reverb.rs`, one frame: "mono input (left + right) * 0.015; eight combs a side summed from 0; four all-passes
-- a side in series; width; mix". Definitions only.
use Rattle.std.specs.Prelude.{◌&&◌, cond, List, [], ◌∷◌, ℕ, leb, length, get_or, set, take, drop, sum, Float}
use Rattle.std.specs.Float.{nan, binary32}
use Rattle.std.specs.Float.Ieee.{add, sub, mul, div}
use Rattle.float.specs.Literal.{literal}
use Rattle.frame.specs.declared.Frame.{Frame}
use Rattle.frame.specs.Mix.{mix_of}
use Rattle.line.specs.Held.{Held, holds, front, back, joined, Ran, ran}
use Rattle.line.specs.Comb.{combed_of, comb_line_of}
use Rattle.line.specs.AllPass.{passed_of, pass_line_of}
use Rattle.reverb_tuning.specs.Tuning.{side_combs, side_lines, comb_count, line_count}
use Rattle.reverb_tuning.specs.Tuning.{reverb_lines, reverb_floats}

-- a float and the three stretches: what one line gives and leaves, or several in turn
pub record Heard : Type 0 where
  pub out : Float
  pub held : Held

-- the two as one record
abbrev pub heard : Float → Held → Heard
heard x h = record { out = x; held = h }

-- one comb, with nothing but its own line, position and remembered float: it adds its output to the sum so far
unfoldable pub comb_of : Float → Float → Float → Float → Held → Heard
comb_of feedback damping input sum h =
    let at = get_or h.positions 0 0 in
    let remembered = get_or h.floats 0 nan in
    let c = combed_of damping at remembered h.store in
    heard (add binary32 sum c.output)
    (holds (comb_line_of feedback damping input at remembered h.store)
    (set h.positions 0 c.at) (set h.floats 0 c.filter_store))

-- one all-pass, with nothing but its own line and position
unfoldable pub pass_of : Float → Held → Heard
pass_of input h =
    let at = get_or h.positions 0 0 in
    let p = passed_of input at h.store in
    heard p.output (holds (pass_line_of input at h.store) (set h.positions 0 p.at) h.floats)

-- Lines of these lengths, one after another. Each is handed x and the front of the stretches: its own floats of the
-- store, one position and `floats` remembered floats. What it gives is the x of the next line, which is handed the
-- rest; after the last line `next` is handed both.
unfoldable pub lines_in_turn : ℕ → (Float → Held → Heard) → (Float → Held → Heard) → List ℕ → Float → Held → Heard
lines_in_turn floats line next [] x h = next x h
lines_in_turn floats line next (n ∷ ns) x h =
    let p = line x (front n 1 floats h) in
    let r = lines_in_turn floats line next ns p.out (back n 1 floats h) in
    heard r.out (joined p.held r.held)

-- one side, with its twelve lines: "eight combs a side summed from 0; four all-passes a side in series"
unfoldable pub side_of : List ℕ → Float → Float → Float → Held → Heard
unfolding lines_in_turn
side_of lines feedback damping input h =
    lines_in_turn 1 (comb_of feedback damping input) (lines_in_turn 0 pass_of heard (drop side_combs lines))
    (take side_combs lines) (literal binary32 0 1) h

-- the width: each side times `wet_1 = stereo_width / 2.0 + 0.5`, plus the other side times
-- `wet_2 = (1.0 - stereo_width) / 2.0`
unfoldable pub width_of : Float → Float → Float → Frame
width_of left right width =
    let wet1 = add binary32 (div binary32 width (literal binary32 2 1)) (literal binary32 1 2) in
    let wet2 = div binary32 (sub binary32 (literal binary32 1 1) width) (literal binary32 2 1) in
    record {
      left = add binary32 (mul binary32 left wet1) (mul binary32 right wet2);
      right = add binary32 (mul binary32 right wet1) (mul binary32 left wet2);
    }

-- one frame through a reverb that has room: the left side is handed the front of the stretches, the right side the rest
unfoldable pub reverbed : ℕ → Float → Float → Float → Float → Ran → Ran
unfolding side_of
reverbed rate feedback damping width mix r =
    let input = mul binary32 (add binary32 r.frame.left r.frame.right) (literal binary32 15 1000) in
    let lines = reverb_lines rate in
    let n = sum (take side_lines lines) in
    let left = side_of (take side_lines lines) feedback damping input (front n side_lines side_combs r.held) in
    let right = side_of (drop side_lines lines) feedback damping input (back n side_lines side_combs r.held) in
    ran (mix_of (width_of left.out right.out width) r.frame mix) (joined left.held right.held)

-- one frame through a reverb; where the store, the positions or the floats are too few for one, the frame comes back
-- and nothing changes
unfoldable pub reverb_of : ℕ → Float → Float → Float → Float → Ran → Ran
unfolding reverbed
reverb_of rate feedback damping width mix r =
    cond (leb (reverb_floats rate) (length r.held.store) && leb line_count (length r.held.positions)
    && leb comb_count (length r.held.floats))
    (reverbed rate feedback damping width mix r) r
