-- kira's `all_pass.rs`, one step: read the old float, then store, then move on. Definitions only.
use Rattle.std.specs.Prelude.{List, ℕ, length, get_or, set, Float}
use Rattle.std.specs.Float.{nan, binary32}
use Rattle.std.specs.Float.Ieee.{add, mul, neg}
use Rattle.float.specs.Literal.{literal}
use Rattle.line.specs.declared.all_pass.Passed.{Passed}
use Rattle.line.specs.Position.{next_position}

-- what a step gives: `-input + buffer_output`, and the next position; past the line's end the old float is NaN
unfoldable pub passed_of : Float → ℕ → List Float → Passed
passed_of input at line =
    record { output = add binary32 (neg input) (get_or line at nan); at = next_position at (length line) }

-- the line after a step: `input + buffer_output * FEEDBACK`, where FEEDBACK is 0.5, in the old float's place; past the
-- line's end nothing is stored
unfoldable pub pass_line_of : Float → ℕ → List Float → List Float
pass_line_of input at line = set line at (add binary32 input (mul binary32 (get_or line at nan) (literal binary32 1 2)))
