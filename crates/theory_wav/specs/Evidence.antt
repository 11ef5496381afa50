-- What a reader may ask of the definitions of crate `wav_samples`, after document 01's words: "A sample is s / 32768;
-- out goes the nearest whole number to 32768 x, ties to even, held to -32768..32767". Each statement is proved in
-- proofs/Evidence.antt. Definitions only.
use Rattle.std.specs.Prelude.{ℕ, ◌*◌, ◌≤◌, ◌<◌, min, ◌≡◌, Bool, not, List, ℤ, nat_abs, length, get_or, take}
use Rattle.std.specs.Int.Signed.{mag, non_neg}
use Rattle.std.specs.Float.{fin}
use Rattle.std.specs.Float.Ieee.{up, down}
use Rattle.std.specs.Float.Ieee.Exact.{HasValue}
use Rattle.theory_nearest.specs.Whole.{NearestWhole}
use Rattle.wav_samples.specs.Sample.{sample_in, sample_out, held_of}
use Rattle.wav_samples.specs.Frames.{samples_of, bytes_of}

-- z is a 16-bit number, from -32768 to 32767: `mag` is n for n, and n for -(n + 1) too
abbrev pub Sixteen : ℤ → Type 0
Sixteen z = mag z < 32768

-- a sample goes in as s / 32768 exactly: no rounding happens
abbrev pub InExact : Type 0
InExact = (z : ℤ) → Sixteen z → HasValue (sample_in z) (not (non_neg z)) (nat_abs z) 32768

-- a finite float goes out with its sign and as the whole number nearest to 32768 times its magnitude, which
-- `held_of` keeps within -32768..32767
abbrev pub OutNearest : Type 0
OutNearest =
    (s : Bool) (m : ℕ) (e : ℤ)
    → (r : ℕ) × NearestWhole (m * up e * 32768) (down e) r × (sample_out (fin s m e) ≡ held_of s (min r 32768))

-- every 16-bit sample comes out as it went in
abbrev pub ThereAndBack : Type 0
ThereAndBack = (z : ℤ) → Sixteen z → sample_out (sample_in z) ≡ z

-- the bytes of n samples come out as they went in
abbrev pub BytesBack : Type 0
BytesBack =
    (bytes : List ℕ) → ((i : ℕ) → get_or bytes i 0 < 256) → (n : ℕ) → 2 * n ≤ length bytes
    → bytes_of (samples_of bytes n) n ≡ take (2 * n) bytes
