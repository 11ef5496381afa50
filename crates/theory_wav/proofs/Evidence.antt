-- The statements of specs/Evidence.antt, each closed by the name of its proof. Assumes nothing.
use Rattle.std.proofs.Common.{refl, ◌*◌, le_refl}
use lib.Ieee.{up, down}
use lib.Ieee.Fits.{down_pos}
use lib.Ieee.Nearest.{closest}
use Rattle.theory_nearest.proofs.Whole.{closest_whole}
use Rattle.wav_samples.specs.Sample.{sample_out, steps_of, negative}
use Rattle.theory_wav.specs.Evidence.{InExact, OutNearest, ThereAndBack, BytesBack}
use Rattle.theory_wav.proofs.Exact as Exact
use Rattle.theory_wav.proofs.Back as Back

pub in_exact : InExact
in_exact = Exact.in_exact

pub out_nearest : OutNearest
unfolding sample_out steps_of negative
out_nearest s m e = (closest (m * up e * 32768) (down e), closest_whole (m * up e * 32768) (down e) (down_pos e), refl)

pub there_and_back : ThereAndBack
there_and_back = Exact.there_and_back

pub bytes_back : BytesBack
bytes_back bytes small n h = Back.bytes_back bytes small n n (le_refl n) h
