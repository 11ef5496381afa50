-- kira's `comb.rs`, one step: read the old float, then store, then move on. Definitions only.
use Rattle.std.specs.Prelude.{List, ℕ, length, get_or, set, Float}
use Rattle.std.specs.Float.{nan, binary32}
use Rattle.std.specs.Float.Ieee.{add, sub, mul}
use Rattle.float.specs.Literal.{literal}
use Rattle.line.specs.declared.comb.Combed.{Combed}
use Rattle.line.specs.Position.{next_position}

-- the new `filter_store`: `output * (1.0 - damp) + filter_store * damp`
unfoldable pub store_of : Float → Float → Float → Float
store_of damp filter_store output =
    add binary32 (mul binary32 output (sub binary32 (literal binary32 1 1) damp)) (mul binary32 filter_store damp)

-- what a step gives: the old float, which is NaN past the line's end, the next position and the new `filter_store`
unfoldable pub combed_of : Float → ℕ → Float → List Float → Combed
combed_of damp at filter_store line = record {
  output = get_or line at nan;
  at = next_position at (length line);
  filter_store = store_of damp filter_store (get_or line at nan);
}

-- the line after a step: `input + filter_store * feedback`, with the new `filter_store`, in the old float's place; past
-- the line's end nothing is stored
unfoldable pub comb_line_of : Float → Float → Float → ℕ → Float → List Float → List Float
comb_line_of feedback damp input at filter_store line =
    set line at (add binary32 input (mul binary32 (store_of damp filter_store (get_or line at nan)) feedback))
