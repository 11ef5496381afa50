-- Rust's `abs`, `clamp` and `max`. Definitions only.
use Rattle.std.specs.Prelude.{false, cond, Float}
use Rattle.std.specs.Float.{nan, inf, fin, Format, binary64}
use Rattle.std.specs.Float.Ieee.{lt, neg}
use Rattle.float.specs.Literal.{literal}

-- Rust's `abs`: the value without its sign; NaN stays NaN
unfoldable pub abs_of : Float → Float
abs_of nan = nan
abs_of (inf s) = inf false
abs_of (fin s m e) = fin false m e

-- Rust's `clamp`: the lower bound for a value below it, the upper bound for a value above it, and otherwise the
-- value itself; so NaN stays NaN, and -0 stays -0 where a bound is 0
abbrev pub clamp_of : Float → Float → Float → Float
clamp_of lower upper x = cond (lt x lower) lower (cond (lt upper x) upper x)

-- clamped to 0..1, as a mix and a resonance are: "-0 stays -0 under the mix clamp"
unfoldable pub unit_of : Format → Float → Float
unit_of f x = clamp_of (literal f 0 1) (literal f 1 1) x

-- clamped to -1..1, as a panning is; this is also the hard clip
unfoldable pub signed_unit_of : Format → Float → Float
signed_unit_of f x = clamp_of (neg (literal f 1 1)) (literal f 1 1) x

-- kira's `q.max(MIN_Q)`, where MIN_Q is 0.01: the larger of x and 0.01, and 0.01 for NaN
unfoldable pub hundredth_of : Float → Float
hundredth_of x = cond (lt (literal binary64 1 100) x) x (literal binary64 1 100)
