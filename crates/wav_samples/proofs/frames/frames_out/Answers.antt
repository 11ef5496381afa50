-- `frames::frames_out` meets its contract. Assumes nothing.
use Rattle.std.proofs.Common.{◌++◌, ◌≡◌, ap, ◌∙◌, ◌+◌, ◌*◌, arith, set, drop, get_or}
use Rattle.std.specs.Float.{nan}
use Rattle.std.proofs.lemmas.List.{length-take-le, get_or-take}
use Rattle.wav_samples.specs.Frames.{whole_frames, low_of, high_of, bytes_of, bytes_out}
use Rattle.wav_samples.proofs.Blocks.{bytes_none, bytes_more}
use Rattle.wav_samples.proofs.frames.frames_out.Goals as goal

pub loop-i-init : goal.loop-i-init
loop-i-init c = bytes_none c.args.samples.now c.args.bytes.now

pub loop-i-preserved : goal.loop-i-preserved
loop-i-preserved c =
    let i = c.loop-i.i in
    let n = 2 * c.whole_frames-frames.result in
    let xs = c.args.samples.now in
    let ys = c.args.bytes.now in
    let long = length-take-le n xs (omega (arith, c.whole_frames-frames.ensures)) in
    c.put_sample.ensures
    ∙ ap (λ x. set (set c.loop-i.bytes (2 * i) (low_of x)) (2 * i + 1) (high_of x)) (get_or-take n xs i nan (omega (arith, long)))
    ∙ ap (λ l. set (set l (2 * i) (low_of (get_or xs i nan))) (2 * i + 1) (high_of (get_or xs i nan))) c.loop-i.invariant
    ∙ bytes_more xs ys i (omega (arith, long, c.whole_frames-frames.ensures))

pub returns : goal.returns
unfolding whole_frames bytes_out
returns c =
    let n = 2 * c.whole_frames-frames.result in
    let xs = c.args.samples.now in
    let ys = c.args.bytes.now in
    let long = length-take-le n xs (omega (arith, c.whole_frames-frames.ensures)) in
    let all : c.loop-i.i ≡ 2 * whole_frames ys xs = omega (arith, long, c.whole_frames-frames.ensures) in
    (c.whole_frames-frames.ensures, c.loop-i.invariant ∙ ap (λ n. bytes_of xs n ++ drop (2 * n) ys) all)
