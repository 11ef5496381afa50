-- `sample::sample_out` meets its contract: the float is the one with these bits. Assumes nothing.
use Rattle.std.proofs.Common.{refl, ◌∙◌}
use denote.Floats.{passes}
use Rattle.wav_samples.proofs.Steps.{bits_out}
use Rattle.wav_samples.proofs.sample.sample_out.Goals as goal

pub returns : goal.returns
returns c =
    let n = c.steps-n in
    bits_out c.args.x c.from-bits.result n.result _ _ (passes _ c.well_formed.0.1) (c.from-bits.ensures ∙ c.to_bits.ensures) refl n.ensures.0 n.ensures.1 c.held.ensures
