-- A 16-bit sample and the float that stands for it: "A sample is s / 32768; out goes the nearest whole number to
-- 32768 x, ties to even, held to -32768..32767, NaN as 0." Definitions only.
-- `round binary32 s a b` is the f32 nearest to a / b, negative where s is true. `closest a b` is the whole number
-- nearest to a / b, a tie going to the even one. A finite float `fin s m e` is m * 2 ^ e, negative where s is true, and
-- 2 ^ e is the fraction up e / down e. A whole number is `pos n`, which is n, or `negsuc n`, which is -(n + 1).
-- Crate `theory_wav` proves that no sample is rounded on its way in, that the nearest whole number goes out, and that
-- every sample comes out as it went in.
use Rattle.std.specs.Prelude.{ℕ, suc, ◌*◌, min, Bool, true, false, ℤ, pos, negsuc, neg_ℤ, Float}
use Rattle.std.specs.Float.{nan, inf, fin, binary32}
use Rattle.std.specs.Float.Ieee.{up, down, round}
use Rattle.std.specs.Float.Ieee.Nearest.{closest}

-- the float of a sample: s / 32768
unfoldable pub sample_in : ℤ → Float
unfolding round
sample_in (pos n) = round binary32 false n 32768
sample_in (negsuc n) = round binary32 true (suc n) 32768

-- the whole number nearest to 32768 |x|, a tie going to the even one, and at most 32768; 0 for NaN
unfoldable pub steps_of : Float → ℕ
steps_of nan = 0
steps_of (inf s) = 32768
steps_of (fin s m e) = min (closest (m * up e * 32768) (down e)) 32768

-- whether x has a negative sign, as -0 has; NaN has none
unfoldable pub negative : Float → Bool
negative nan = false
negative (inf s) = s
negative (fin s m e) = s

-- minus n where the sign is negative (true); otherwise n, but at most 32767
unfoldable pub held_of : Bool → ℕ → ℤ
held_of true n = neg_ℤ (pos n)
held_of false n = pos (min n 32767)

-- the sample that goes out for x: 32768 x rounded, "held to -32768..32767, NaN as 0"
unfoldable pub sample_out : Float → ℤ
unfolding steps_of negative held_of
sample_out x = held_of (negative x) (steps_of x)
