-- 16-bit numbers with a sign, as the machine holds them. Assumes nothing.
use Rattle.std.proofs.Common.{◌≡◌, refl, ap, ◌∙◌, Bool, true, false, ℕ, zero, suc, ◌<◌, ◌≤◌, arith, ℤ, pos, negsuc, w16, to_z, of_z, to_z-of_z}
use lib.Signed.{mag}
use mir.Facts.{sfits_to_z}
use Rattle.std.specs.Int.{cast_signed}
use Rattle.wav_samples.specs.Sample.{held_of}

-- what is written and read back
pub came : {z y : ℤ} → z ≡ y → mag y < 32768 → to_z w16 (of_z w16 z) ≡ y
came {z} {y} e h = ap (λ (x : ℤ). to_z w16 (of_z w16 x)) e ∙ to_z-of_z {w = w16} (record { sfits = h })

pub read_back : (z : ℤ) → mag z < 32768 → to_z w16 (of_z w16 z) ≡ z
read_back z h = came refl h

-- a number with a sign has 16 bits
pub held_small : (s : Bool) (n : ℕ) → n ≤ 32768 → mag (held_of s n) < 32768
unfolding held_of
held_small true zero h = omega arith
held_small true (suc n) h = omega arith
held_small false n h = omega arith

-- what is read of 16 bits has 16 bits
pub signed_small : (n : ℕ) → n < 65536 → mag (cast_signed w16 n) < 32768
signed_small n h = (sfits_to_z {w = w16} {n = n} (record { fits = h })).sfits

-- so has what is written
pub code_small : (z : ℤ) → mag z < 32768 → of_z w16 z < 65536
code_small (pos n) h = omega arith
code_small (negsuc n) h = omega arith
