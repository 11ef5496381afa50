-- A number as the Rust's source writes it, such as 0.5 or 0.01. Definitions only.
use Rattle.std.specs.Prelude.{ℕ, false, Float}
use Rattle.std.specs.Float.{Format}
use Rattle.std.specs.Float.Ieee.{round}

-- the format's value nearest to the fraction a / b
unfoldable pub literal : Format → ℕ → ℕ → Float
unfolding round
literal f a b = round f false a b
