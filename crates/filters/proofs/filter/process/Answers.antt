-- The promises of the calls, the last first, turn the result into the definition. Assumes nothing.
use lib.Ieee.{of_bits, round}
use Rattle.float.specs.Literal.{literal}
use Rattle.filters.specs.Filter.{filter_of}
use Rattle.filters.proofs.filter.process.Goals as goal

pub returns : goal.returns
unfolding filter_of literal round of_bits
returns c =
    rw (
      c.mixed.ensures,
      c.output-wet.ensures,
      c.as_f32.ensures,
      c.run_narrowed.ensures,
      c.weigh.ensures,
      c.clamp_unit.ensures,
    )
