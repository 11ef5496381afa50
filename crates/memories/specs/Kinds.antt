-- The two frames that a filter or an EQ remembers, among its place's floats. Definitions only.
use Rattle.std.specs.Prelude.{List, Float}
use Rattle.integrators.specs.declared.Integrators.{Integrators}
use Rattle.line.specs.Frames.{frame_at, frame_in}
use Rattle.memories.specs.Sizes.{ic1eq_at, ic2eq_at}

-- the two frames, read from the place's floats; a missing float is read as NaN
unfoldable pub remembered : List Float → Integrators
remembered floats = record { ic1eq = frame_at ic1eq_at floats; ic2eq = frame_at ic2eq_at floats }

-- the place's floats with these two frames in place of the old ones; where a float is missing nothing is stored
unfoldable pub remember : Integrators → List Float → List Float
remember memory floats = frame_in ic2eq_at memory.ic2eq (frame_in ic1eq_at memory.ic1eq floats)
