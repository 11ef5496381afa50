-- The lengths of the lines of a reverb's side, as the definitions of a step have them and as kira has them. Assumes nothing.
use Rattle.std.proofs.Common.{◌≡◌, List, map, ℕ, Float, length, take, drop}
use Rattle.reverb_tuning.specs.Tuning.{side_combs, side_lines, length_of, reverb_lines}
use Rattle.theory_effects.specs.Line.{Line, buffer}
use Rattle.theory_effects.specs.Effects.{Comb, Side}
use Rattle.theory_effects.specs.Standing.{FullSide}

-- the combs' lines have the first eight of these lengths, and the all-passes' the others
pub record Lengths (lines : List ℕ) (side : Side) : Type 0 where
  pub combs : map (λ (c : Comb). length (buffer c.line)) side.combs ≡ take side_combs lines
  pub passes : map (λ (l : Line Float). length (buffer l)) side.passes ≡ drop side_combs lines

module _ (rate : ℕ) (side : Side) where
  pub left_lengths : FullSide rate 0 side → Lengths (take side_lines (reverb_lines rate)) side
  unfolding reverb_lines length_of
  left_lengths f = record { combs = f.combs; passes = f.passes }

  pub right_lengths : FullSide rate 23 side → Lengths (drop side_lines (reverb_lines rate)) side
  unfolding reverb_lines length_of
  right_lengths f = record { combs = f.combs; passes = f.passes }

  pub left_full : Lengths (take side_lines (reverb_lines rate)) side → FullSide rate 0 side
  unfolding reverb_lines length_of
  left_full l = record { combs = l.combs; passes = l.passes }

  pub right_full : Lengths (drop side_lines (reverb_lines rate)) side → FullSide rate 23 side
  unfolding reverb_lines length_of
  right_full l = record { combs = l.combs; passes = l.passes }
