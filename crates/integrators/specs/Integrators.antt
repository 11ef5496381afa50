-- What kira's `filter.rs` and `eq_filter.rs` have in common: a1, a2 and a3 out of g and k, and the part of a step that
-- reads and renews the two remembered frames. Definitions only.
use Rattle.std.specs.Prelude.{Float}
use Rattle.std.specs.Float.{binary32, binary64}
use Rattle.std.specs.Float.Ieee.{add, mul, div}
use Rattle.float.specs.Literal.{literal}
use Rattle.frame.specs.declared.Frame.{Frame}
use Rattle.frame.specs.Operations.{add_of, sub_of, mul_of}
use Rattle.integrators.specs.declared.Integrators.{Integrators}
use Rattle.integrators.specs.declared.Stepped.{Stepped}
use Rattle.integrators.specs.declared.Weights.{Weights}

-- `a1 = 1.0 / (1.0 + g * (g + k))`, `a2 = g * a1`, `a3 = g * a2`, all in f64
unfoldable pub weights_of : Float → Float → Weights Float
weights_of g k =
    let a1 =
    div binary64 (literal binary64 1 1) (add binary64 (literal binary64 1 1) (mul binary64 g (add binary64 g k))) in
    let a2 = mul binary64 g a1 in
    let a3 = mul binary64 g a2 in
    record { a1 = a1; a2 = a2; a3 = a3 }

-- v1 and v2, and the two frames remembered after the step; a1, a2 and a3 have been narrowed to f32
unfoldable pub stepped_of : Integrators → Frame → Weights Float → Stepped
stepped_of memory frame weights =
    let a1 = weights.a1 in
    let a2 = weights.a2 in
    let a3 = weights.a3 in
    let ic1eq = memory.ic1eq in
    let ic2eq = memory.ic2eq in
    let v3 = sub_of frame ic2eq in
    let v1 = add_of (mul_of ic1eq a1) (mul_of v3 a2) in
    let v2 = add_of (add_of ic2eq (mul_of ic1eq a2)) (mul_of v3 a3) in
    let two = literal binary32 2 1 in
    record {
      parts = record { v1 = v1; v2 = v2 };
      after = record { ic1eq = sub_of (mul_of v1 two) ic1eq; ic2eq = sub_of (mul_of v2 two) ic2eq };
    }
