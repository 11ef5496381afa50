-- No stage has more lines than a place has positions. Assumes nothing.
use Rattle.std.proofs.Common.{ℕ, ◌≤◌, arith, length}
use Rattle.reverb_tuning.proofs.Tunings.{lines_length}
use Rattle.memories.specs.Sizes.{place_positions}
use Rattle.stage.specs.declared.kind.Stage.{Stage}
use Rattle.stage.specs.declared.kind.Lines.{Lines}
use Rattle.stage.specs.declared.kind.Lines.TheVariants.{NoLines, ReverbLines, FrameLine}
use Rattle.stage.specs.Holding.{holding_of}
use Rattle.line_layout.specs.Lines.{lengths_of, lines_of}

few : (rate : ℕ) (lines : Lines) → length (lengths_of rate lines) ≤ place_positions
unfolding lengths_of
few rate NoLines = omega arith
few rate ReverbLines = omega (arith, lines_length rate)
few rate (FrameLine frames) = omega arith

pub few_lines : (rate : ℕ) (s : Stage) → length (lines_of rate s) ≤ place_positions
few_lines rate s = few rate (holding_of s).lines
