-- A block of frames, of 4 bytes or 2 samples each: as many whole frames go in or out as the bytes and the samples both
-- have room for, and what lies past them stays as it was. Definitions only.
use Rattle.std.specs.Prelude.{ℕ, zero, suc, ◌*◌, ◌/◌, ◌%◌, min, List, [], ◌∷◌, ◌++◌, length, drop, get_or, Float}
use Rattle.std.specs.Float.{nan}
use Rattle.wav_samples.specs.Sample.{sample_in, sample_out}
use Rattle.wav_bytes.specs.Bytes.{two_at}
use Rattle.std.specs.Int.{w16, cast_signed, cast_unsigned}

-- how many whole frames these bytes and these samples both have room for
unfoldable pub whole_frames : List ℕ → List Float → ℕ
whole_frames bytes samples = min (length bytes / 4) (length samples / 2)

-- sample i of the bytes, as a float
unfoldable pub sample_at : List ℕ → ℕ → Float
unfolding sample_in two_at
sample_at bytes i = sample_in (cast_signed w16 (two_at bytes (2 * i)))

-- the first n samples of the bytes, as floats
unfoldable pub samples_of : List ℕ → ℕ → List Float
unfolding sample_at
samples_of bytes zero = []
samples_of bytes (suc n) = samples_of bytes n ++ (sample_at bytes n ∷ [])

-- the low byte of the sample that goes out for x
unfoldable pub low_of : Float → ℕ
unfolding sample_out
low_of x = cast_unsigned w16 (sample_out x) % 256

-- the high byte of the sample that goes out for x
unfoldable pub high_of : Float → ℕ
unfolding sample_out
high_of x = cast_unsigned w16 (sample_out x) / 256

-- the bytes of the first n samples, the low byte of each first
unfoldable pub bytes_of : List Float → ℕ → List ℕ
unfolding low_of high_of
bytes_of samples zero = []
bytes_of samples (suc n) = bytes_of samples n ++ (low_of (get_or samples n nan) ∷ high_of (get_or samples n nan) ∷ [])

-- what `frames_in` leaves in the samples: the frames of the bytes, and past them what there was
unfoldable pub samples_in : List ℕ → List Float → List Float
unfolding whole_frames samples_of
samples_in bytes samples = let n = 2 * whole_frames bytes samples in samples_of bytes n ++ drop n samples

-- what `frames_out` leaves in the bytes: the frames of the samples, and past them what there was
unfoldable pub bytes_out : List Float → List ℕ → List ℕ
unfolding whole_frames bytes_of
bytes_out samples bytes = let n = 2 * whole_frames bytes samples in bytes_of samples n ++ drop (2 * n) bytes
