-- `frames::sample_at` meets its contract. Assumes nothing.
use Rattle.std.proofs.Common.{ap, ◌∙◌, w16, to_z}
use Rattle.wav_samples.specs.Frames.{sample_at}
use Rattle.wav_samples.specs.Sample.{sample_in}
use Rattle.wav_samples.proofs.Signed as sg
use Rattle.wav_samples.proofs.frames.sample_at.Goals as goal

pub returns : goal.returns
unfolding sample_at
returns c = c.sample_in.ensures ∙ ap sample_in (sg.came c.cast_signed.ensures (sg.signed_small c.two_at.result c.two_at.type_inv) ∙ ap (to_z w16) c.two_at.ensures)
