-- `frames::put_sample` meets its contract. Assumes nothing.
use Rattle.std.proofs.Common.{◌≡◌, ◌<◌, ◌/◌, ◌%◌, arith, w16, of_z}
use lib.Signed.{mag}
use Rattle.wav_samples.specs.Frames.{low_of, high_of}
use Rattle.wav_samples.specs.Sample.{sample_out}
use Rattle.wav_samples.proofs.Signed as sg
use Rattle.wav_samples.proofs.frames.put_sample.Goals as goal

pub returns : goal.returns
unfolding low_of high_of
returns c =
    let z = sample_out c.args.x in
    let small : mag z < 32768 = rw c.sample_out.ensures at c.sample_out.type_inv in
    let high : of_z w16 z / 256 % 256 ≡ of_z w16 z / 256 = omega (arith, sg.code_small z small) in
    rw (c.to_le_bytes.ensures, sg.came c.sample_out.ensures small, high)
