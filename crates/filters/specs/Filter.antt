-- kira's `filter.rs`, one frame; g is the tangent that the Rust works out. Definitions only.
use Rattle.std.specs.Prelude.{Float}
use Rattle.std.specs.Float.{binary32, binary64}
use Rattle.std.specs.Float.Ieee.{sub, mul}
use Rattle.float.specs.Literal.{literal}
use Rattle.float.specs.Clamp.{unit_of}
use Rattle.rounding.specs.Narrow.{narrow_of}
use Rattle.frame.specs.declared.Frame.{Frame}
use Rattle.frame.specs.Operations.{sub_of, mul_of}
use Rattle.frame.specs.Mix.{mix_of}
use Rattle.integrators.specs.declared.Integrators.{Integrators}
use Rattle.integrators.specs.declared.Parts.{Parts}
use Rattle.integrators.specs.declared.Filtered.{Filtered}
use Rattle.filters.specs.declared.filter.FilterMode.{FilterMode}
use Rattle.filters.specs.declared.filter.FilterMode.TheVariants.{LowPass, BandPass, HighPass, Notch}
use Rattle.integrators.specs.Integrators.{weights_of}
use Rattle.filters.specs.Narrowed.{narrowed_of}

-- `let k = 2.0 - (1.9 * resonance)`, the resonance clamped to 0..1
unfoldable pub damping_of : Float → Float
damping_of resonance =
    sub binary64 (literal binary64 2 1) (mul binary64 (literal binary64 19 10) (unit_of binary64 resonance))

-- what each mode makes of the frame, v1 and v2, before the mix; k has been narrowed to f32
unfoldable pub output_of : FilterMode → Frame → Parts → Float → Frame
output_of LowPass frame p k = p.v2
output_of BandPass frame p k = p.v1
output_of HighPass frame p k = sub_of (sub_of frame (mul_of p.v1 k)) p.v2
output_of Notch frame p k = sub_of frame (mul_of p.v1 k)

-- one frame through a filter: the mode's output mixed with the frame, and what is remembered after it
unfoldable pub filter_of : FilterMode → Float → Float → Float → Integrators → Frame → Filtered
unfolding damping_of output_of weights_of narrowed_of
filter_of mode g resonance mix memory frame =
    let k = damping_of resonance in
    let s = narrowed_of memory frame (weights_of g k) in
    record { output = mix_of (output_of mode frame s.parts (narrow_of binary32 k)) frame mix; after = s.after }
