-- The promises of the calls, the last first, turn the result into the definition; the gain is an i32 on its way to `calculate`. Assumes nothing.
use Rattle.std.proofs.Common.{w32}
use mir.ValLaws.{to_z-of_z}
use Rattle.filters.specs.EqFilter.{eq_of}
use Rattle.filters.proofs.eq_filter.process.Goals as goal

pub returns : goal.returns
unfolding eq_of
returns c =
    rw (
      c.add-output.ensures,
      c.mul-2.ensures,
      c.as_f32-3.ensures,
      c.add.ensures,
      c.mul.ensures,
      c.as_f32-2.ensures,
      c.mul-dry.ensures,
      c.as_f32.ensures,
      c.run_narrowed.ensures,
      c.calculate-a1.ensures,
      to_z-of_z w32 c.args.gain c.ranges.gain,
    )
