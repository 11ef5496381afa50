-- What kira's `filter.rs` and `eq_filter.rs` do with a1, a2 and a3, which they work out in f64: they narrow them by
-- `as f32` where they work out v1 and v2. Definitions only.
use Rattle.std.specs.Prelude.{Float}
use Rattle.std.specs.Float.{binary32}
use Rattle.rounding.specs.Narrow.{narrow_of}
use Rattle.frame.specs.declared.Frame.{Frame}
use Rattle.integrators.specs.declared.Integrators.{Integrators}
use Rattle.integrators.specs.declared.Stepped.{Stepped}
use Rattle.integrators.specs.declared.Weights.{Weights}
use Rattle.integrators.specs.Integrators.{stepped_of}

-- a step with a1, a2 and a3 narrowed to f32
unfoldable pub narrowed_of : Integrators → Frame → Weights Float → Stepped
unfolding stepped_of
narrowed_of memory frame weights =
    let a1 = narrow_of binary32 weights.a1 in
    let a2 = narrow_of binary32 weights.a2 in
    let a3 = narrow_of binary32 weights.a3 in
    stepped_of memory frame (record { a1 = a1; a2 = a2; a3 = a3 })
