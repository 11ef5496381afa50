-- The rule of the lists: each entry is the float nearest to its power of ten. Definitions only.
-- It is "stated over whole numbers by comparing 20th powers", and for an EQ 40th powers.
-- That every entry keeps the rule is proved by `amplitude_rule` and `eq_amplitude_rule` of proofs/AmplitudeRules.antt.
use Rattle.std.specs.Prelude.{ℕ, suc, ◌^◌, false, ℤ, pos, negsuc, Float}
use Rattle.std.specs.Float.{Format}
use Rattle.theory_nearest.specs.Nearest.{Nearest}

-- y is the format's value nearest to 10 ^ (z / j)
abbrev pub NearestPower : Format → ℕ → ℤ → Float → Type 0
NearestPower f j (pos k) y = Nearest f false j (10 ^ k) 1 y
NearestPower f j (negsuc k) y = Nearest f false j 1 (10 ^ suc k) y
