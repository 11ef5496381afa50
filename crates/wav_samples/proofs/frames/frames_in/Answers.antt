-- `frames::frames_in` meets its contract. Assumes nothing.
use Rattle.std.proofs.Common.{◌++◌, append-nil, ◌≡◌, ap, ◌∙◌, ◌*◌, arith, set, drop, take}
use Rattle.std.proofs.lemmas.List.{length-take-le, drop_all}
use Rattle.wav_samples.specs.Frames.{whole_frames, sample_at, samples_of, samples_in}
use Rattle.wav_samples.proofs.Blocks.{samples_none, samples_more}
use Rattle.wav_samples.proofs.frames.frames_in.Goals as goal

pub loop-i-init : goal.loop-i-init
loop-i-init c = samples_none c.args.bytes.now _

pub loop-i-preserved : goal.loop-i-preserved
loop-i-preserved c =
    let i = c.loop-i.i in
    let b = c.args.bytes.now in
    ap (λ x. set c.loop-i.sample-items i x) c.sample_at.ensures ∙ ap (λ l. set l i (sample_at b i)) c.loop-i.invariant ∙ samples_more b _ i c.loop-i-test.true

pub returns : goal.returns
unfolding whole_frames samples_in
returns c =
    let i = c.loop-i.i in
    let b = c.args.bytes.now in
    let xs = c.args.samples.now in
    let n = 2 * c.whole_frames-frames.result in
    let long = length-take-le n xs (omega (arith, c.whole_frames-frames.ensures)) in
    let done : i ≡ n = omega (arith, long) in
    let all : n ≡ 2 * whole_frames b xs = omega (arith, c.whole_frames-frames.ensures) in (
      c.whole_frames-frames.ensures,
      ap (λ l. l ++ drop n xs) (c.loop-i.invariant ∙ ap (λ r. samples_of b i ++ r) (drop_all i (take n xs) (omega (arith, long))) ∙ append-nil (samples_of b i))
          ∙ ap (λ k. samples_of b k ++ drop n xs) done
          ∙ ap (λ k. samples_of b k ++ drop k xs) all,
    )
