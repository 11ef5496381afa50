-- Document 01's examples hold: antt works out every row on the definitions. Assumes nothing.
use Rattle.std.proofs.Common.{refl}
use lib.Ieee.{add, sub, mul, div, neg, lt, le, eq, of_bits, to_bits, round}
use Rattle.float.specs.Literal.{literal}
use Rattle.float.specs.Clamp.{abs_of, unit_of, signed_unit_of}
use Rattle.float.specs.Finite.{finite_of}
use Rattle.rounding.specs.Root.{sqrt_of}
use Rattle.rounding.specs.Narrow.{narrow_of}
use Rattle.decibels.specs.Amplitude.{amplitude_of}
use Rattle.frame.specs.Operations.{from_mono_of, add_of, mul_of, div_of}
use Rattle.frame.specs.Mix.{mix_of}
use Rattle.frame.specs.Panning.{panned_of, sqrt2}
use Rattle.plain_effects.specs.Distortion.{distortion_of}
use Rattle.line.specs.Held.{front, back, joined}
use Rattle.line.specs.Frames.{frame_at, frame_in}
use Rattle.line.specs.Position.{next_position}
use Rattle.line.specs.AllPass.{passed_of, pass_line_of}
use Rattle.line.specs.Comb.{store_of, combed_of, comb_line_of}
use Rattle.reverb_tuning.specs.Tuning.{length_of}
use Rattle.theory_order.specs.Chain as Order
use Rattle.theory_order.specs.Finish.{finishing_from}
use Rattle.theory_tables.specs.First.{first_from}
use Rattle.stage.specs.Holding.{holding_of}
use Rattle.stage.specs.Setup.{empty_setup, with_stage, next_place}
use Rattle.stage.specs.Range.{in_range_of}
use Rattle.line_layout.specs.Layout.{start_of, starts_of, size_of}
use Rattle.line_layout.specs.Lines.{lengths_of, floats_of}
use Rattle.stage_step.specs.Step.{process_at}
use Rattle.refusals.specs.Shape.{depth_of, faulty}
use Rattle.top_stages.specs.Tops.{top_at, tops_of}
use Rattle.order_entries.specs.Entries.{stuck}
use Rattle.refusals.specs.Refusals.{answer_of}
use Rattle.chain.specs.Chain.{stretch, replaced}
use Rattle.theory_examples.specs.Examples.{ExamplesHold}

pub examples_hold : ExamplesHold
unfolding sqrt_of narrow_of amplitude_of from_mono_of add_of mul_of div_of mix_of panned_of sqrt2 distortion_of front back joined frame_at frame_in next_position passed_of pass_line_of store_of combed_of comb_line_of length_of first_from holding_of empty_setup with_stage next_place in_range_of start_of starts_of size_of lengths_of floats_of process_at depth_of faulty tops_of top_at stuck answer_of Order.out Order.put Order.step finishing_from stretch replaced abs_of unit_of signed_unit_of finite_of literal add sub mul div neg lt le eq of_bits to_bits round
examples_hold = (refl, (refl, (refl, (refl, (refl, (refl, (refl, (refl, (refl, (refl, (refl, (refl, (refl, (refl, (refl, (refl, tt))))))))))))))))
