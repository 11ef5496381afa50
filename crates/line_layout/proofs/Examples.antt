-- The edges of lines, worked out by antt on the definitions. Assumes nothing.
use Rattle.std.proofs.Common.{◌≡◌, refl, true, false, List, ℕ, set, replicate}
use Rattle.reverb_tuning.specs.Tuning.{reverb_lines}
use Rattle.theory_tables.specs.First.{first_from}
use Rattle.theory_tables.specs.Condition.{decide}
use Rattle.memories.specs.Sizes.{place_positions}
use Rattle.stage.specs.declared.kind.Stage.TheVariants.{Reverb}
use Rattle.stage.specs.Holding.{holding_of}
use Rattle.stage.proofs.Examples.{one, delayed}
use Rattle.line_layout.specs.Lines.{lengths_of, floats_of, lost_of}

-- two floats a frame of a delay
pub delay_floats : floats_of 44100 (delayed 480000) ≡ 960000
unfolding floats_of
delay_floats = refl

-- the positions of one place: these two, and zeros
abbrev positions : ℕ → ℕ → List ℕ
positions a b = set (set (replicate place_positions 0) 0 a) 1 b

-- a position at its line's length is lost, and one below it is not
pub delay_last : decide (lost_of 44100 (delayed 10) (positions 9 0)) ≡ false
unfolding holding_of lengths_of first_from
delay_last = refl

pub delay_lost : decide (lost_of 44100 (delayed 10) (positions 10 0)) ≡ true
unfolding holding_of lengths_of first_from
delay_lost = refl

pub reverb_last : decide (lost_of 44100 (Reverb one one one one) (positions 1115 1187)) ≡ false
unfolding holding_of lengths_of first_from reverb_lines
reverb_last = refl

pub reverb_lost : decide (lost_of 44100 (Reverb one one one one) (positions 1115 1188)) ≡ true
unfolding holding_of lengths_of first_from reverb_lines
reverb_lost = refl
