-- From the structs of this crate, which C can read, to those of `frame`, `integrators` and `filters`, and back: the
-- same numbers under the same names. Definitions only.
use Rattle.std.specs.Prelude.{Float}
use Rattle.frame.specs.declared.Frame.{Frame}
use Rattle.integrators.specs.declared.Integrators.{Integrators}
use Rattle.integrators.specs.declared.Filtered.{Filtered}
use Rattle.integrators.specs.declared.Weights.{Weights}
use Rattle.filters.specs.declared.eq_filter.Coefficients.{Coefficients}
use Rattle.compare_effects.specs.declared.effects.Pair.{Pair}
use Rattle.compare_effects.specs.declared.effects.Memory.{Memory}
use Rattle.compare_effects.specs.declared.effects.Processed.{Processed}
use Rattle.compare_effects.specs.declared.effects.Three.{Three}
use Rattle.compare_effects.specs.declared.effects.Six.{Six}

-- the frame of a pair
abbrev pub pair_in : Pair → Frame
pair_in p = record { left = p.left; right = p.right }

-- the pair of a frame
abbrev pub pair_out : Frame → Pair
pair_out f = record { left = f.left; right = f.right }

-- the two remembered frames, as a filter or an EQ takes them
abbrev pub integrators_in : Memory → Integrators
integrators_in m = record { ic1eq = pair_in m.ic1eq; ic2eq = pair_in m.ic2eq }

-- the two remembered frames, as a filter or an EQ gives them
abbrev pub integrators_out : Integrators → Memory
integrators_out i = record { ic1eq = pair_out i.ic1eq; ic2eq = pair_out i.ic2eq }

-- what a filter or an EQ gives
abbrev pub processed_out : Filtered → Processed
processed_out f = record { output = pair_out f.output; after = integrators_out f.after }

-- the weights a1, a2 and a3
abbrev pub weights_out : Weights Float → Three
weights_out w = record { a1 = w.a1; a2 = w.a2; a3 = w.a3 }

-- an EQ's six coefficients
abbrev pub coefficients_out : Coefficients → Six
coefficients_out c = record { a1 = c.a1; a2 = c.a2; a3 = c.a3; m0 = c.m0; m1 = c.m1; m2 = c.m2 }
