-- kira's `eq_filter.rs`: the six coefficients by `Coefficients::calculate`, and one frame. Definitions only.
-- In the three kinds g is the tangent that the Rust works out, q is at least 0.01, and a is the f64 nearest to
-- 10 ^ (gain / 40).
use Rattle.std.specs.Prelude.{ℤ, Float}
use Rattle.std.specs.Float.{binary32, binary64}
use Rattle.std.specs.Float.Ieee.{sub, mul, div}
use Rattle.float.specs.Literal.{literal}
use Rattle.float.specs.Clamp.{hundredth_of}
use Rattle.rounding.specs.Narrow.{narrow_of}
use Rattle.rounding.specs.Root.{sqrt_of}
use Rattle.decibels.specs.Amplitude.{eq_amplitude_of}
use Rattle.frame.specs.declared.Frame.{Frame}
use Rattle.frame.specs.Operations.{add_of, mul_of}
use Rattle.integrators.specs.declared.Integrators.{Integrators}
use Rattle.integrators.specs.declared.Filtered.{Filtered}
use Rattle.filters.specs.declared.eq_filter.Coefficients.{Coefficients}
use Rattle.filters.specs.declared.eq_filter.EqFilterKind.{EqFilterKind}
use Rattle.filters.specs.declared.eq_filter.EqFilterKind.TheVariants.{Bell, LowShelf, HighShelf}
use Rattle.integrators.specs.Integrators.{weights_of}
use Rattle.filters.specs.Narrowed.{narrowed_of}

-- 1.0 as an f64
abbrev one : Float
one = literal binary64 1 1

-- `EqFilterKind::Bell`, for which k is 1 / (q * a)
unfoldable pub bell_of : Float → Float → Float → Coefficients
bell_of g q a =
    let k = div binary64 one (mul binary64 q a) in
    let w = weights_of g k in
    record {
      a1 = w.a1;
      a2 = w.a2;
      a3 = w.a3;
      m0 = one;
      m1 = mul binary64 k (sub binary64 (mul binary64 a a) one);
      m2 = literal binary64 0 1;
    }

-- `EqFilterKind::LowShelf`, for which k is 1 / q and g is divided by `a.sqrt()`
unfoldable pub low_shelf_of : Float → Float → Float → Coefficients
low_shelf_of g q a =
    let k = div binary64 one q in
    let w = weights_of (div binary64 g (sqrt_of binary64 a)) k in
    record {
      a1 = w.a1;
      a2 = w.a2;
      a3 = w.a3;
      m0 = one;
      m1 = mul binary64 k (sub binary64 a one);
      m2 = sub binary64 (mul binary64 a a) one;
    }

-- `EqFilterKind::HighShelf`, for which k is 1 / q and g is multiplied by `a.sqrt()`
unfoldable pub high_shelf_of : Float → Float → Float → Coefficients
high_shelf_of g q a =
    let k = div binary64 one q in
    let w = weights_of (mul binary64 g (sqrt_of binary64 a)) k in
    record {
      a1 = w.a1;
      a2 = w.a2;
      a3 = w.a3;
      m0 = mul binary64 a a;
      m1 = mul binary64 (mul binary64 k (sub binary64 one a)) a;
      m2 = sub binary64 one (mul binary64 a a);
    }

-- `Coefficients::calculate`, from the caller's g and q and a gain in whole decibels: "q below 0.01 counts as 0.01"
unfoldable pub coefficients_of : EqFilterKind → Float → Float → ℤ → Coefficients
coefficients_of Bell g q gain = bell_of g (hundredth_of q) (eq_amplitude_of gain)
coefficients_of LowShelf g q gain = low_shelf_of g (hundredth_of q) (eq_amplitude_of gain)
coefficients_of HighShelf g q gain = high_shelf_of g (hundredth_of q) (eq_amplitude_of gain)

-- one frame through an EQ: `*frame * (m0 as f32) + v1 * (m1 as f32) + v2 * (m2 as f32)`, and what is remembered
-- after it
unfoldable pub eq_of : EqFilterKind → Float → Float → ℤ → Integrators → Frame → Filtered
unfolding coefficients_of narrowed_of
eq_of kind g q gain memory frame =
    let c = coefficients_of kind g q gain in
    let s = narrowed_of memory frame (record { a1 = c.a1; a2 = c.a2; a3 = c.a3 }) in
    let p = s.parts in
    record {
      output =
          add_of (add_of (mul_of frame (narrow_of binary32 c.m0)) (mul_of p.v1 (narrow_of binary32 c.m1)))
          (mul_of p.v2 (narrow_of binary32 c.m2));
      after = s.after;
    }
