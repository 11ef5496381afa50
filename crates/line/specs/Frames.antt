-- A line of frames, left and right side by side, read and stored at a position counted in frames. Definitions only.
use Rattle.std.specs.Prelude.{List, ℕ, ◌+◌, ◌*◌, get_or, set, Float}
use Rattle.std.specs.Float.{nan}
use Rattle.frame.specs.declared.Frame.{Frame}

-- the frame at position `at`; what lies past the line's end is NaN
unfoldable pub frame_at : ℕ → List Float → Frame
frame_at at line = record { left = get_or line (2 * at) nan; right = get_or line (2 * at + 1) nan }

-- the line with the frame x at position `at`; past the line's end nothing is stored
unfoldable pub frame_in : ℕ → Frame → List Float → List Float
frame_in at x line = set (set line (2 * at) x.left) (2 * at + 1) x.right
