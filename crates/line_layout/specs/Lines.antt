-- A stage's lines: how long they are, how many floats they have, and whether positions are on them. Definitions only.
use Rattle.std.specs.Prelude.{List, [], ◌∷◌, ℕ, ◌*◌, length, get_or, sum}
use Rattle.theory_tables.specs.Condition.{Condition, at_most, among}
use Rattle.reverb_tuning.specs.Tuning.{reverb_lines}
use Rattle.stage.specs.declared.kind.Stage.{Stage}
use Rattle.stage.specs.declared.kind.Lines.{Lines}
use Rattle.stage.specs.declared.kind.Lines.TheVariants.{NoLines, ReverbLines, FrameLine}
use Rattle.stage.specs.Holding.{holding_of}

-- the length of each line at this rate: a reverb's in floats, a delay's in frames
unfoldable pub lengths_of : ℕ → Lines → List ℕ
lengths_of rate NoLines = []
lengths_of rate ReverbLines = reverb_lines rate
lengths_of rate (FrameLine frames) = frames ∷ []

-- how many floats one element of a line has: a reverb's lines hold floats, and a delay's has "two per delay frame"
unfoldable pub element_floats : Lines → ℕ
element_floats NoLines = 0
element_floats ReverbLines = 1
element_floats (FrameLine frames) = 2

-- the length of each of a stage's lines
abbrev pub lines_of : ℕ → Stage → List ℕ
lines_of rate stage = lengths_of rate (holding_of stage).lines

-- how many floats all of a stage's lines have
unfoldable pub floats_of : ℕ → Stage → ℕ
unfolding holding_of lengths_of element_floats
floats_of rate stage = element_floats (holding_of stage).lines * sum (lines_of rate stage)

-- "a remembered position (one per line, a delay's in frames) not below its line's length"
abbrev pub off_lines : List ℕ → List ℕ → Condition
off_lines lines positions = among (length lines) (λ j. at_most (get_or lines j 0) (get_or positions j 0))

-- the same, for the lines of a stage at this rate
abbrev pub lost_of : ℕ → Stage → List ℕ → Condition
lost_of rate stage positions = off_lines (lines_of rate stage) positions
