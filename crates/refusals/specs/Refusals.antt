-- Document 01's table of eleven refusals: "The first that applies, in this order, is given." A row says its number,
-- when it applies and with which place, and the answer. Where no row applies, the call is accepted. Definitions only.
use Rattle.std.specs.Prelude.{cond, List, [], ◌∷◌, ◌++◌, ℕ, ◌*◌, ◌-◌, ◌/◌, ◌%◌, eqb, length, get_or, Float, Err}
use Rattle.std.specs.Float.{nan}
use Rattle.float.specs.Finite.{finite_of}
use Rattle.theory_order.specs.Stretch.{part}
use Rattle.theory_tables.specs.Condition.{Condition, less, at_most, same, fails, both, ◌or◌}
use Rattle.theory_tables.specs.Rows.{Row, row, given, first, first_row}
use Rattle.memories.specs.Sizes.{place_positions}
use Rattle.stage.specs.declared.setup.Setup.{Setup}
use Rattle.stage.specs.Setup.{stage_at, used_of}
use Rattle.stage.specs.Range.{in_range_of}
use Rattle.line_layout.specs.Lines.{lost_of}
use Rattle.line_layout.specs.Layout.{needed_of}
use Rattle.answer.specs.declared.Refusal.TheVariants.{Rate, Stages, Shape, Setting, Store, Position}
use Rattle.answer.specs.declared.Refusal.TheVariants.{Samples, Frames, Progress, Sample}
use Rattle.answer.specs.Answer.{Answer, accepted}
use Rattle.top_stages.specs.Tops.{tops_of}
use Rattle.order_entries.specs.Entries.{order_rows}
use Rattle.refusals.specs.Shape.{faulty}

-- ---- what the rows ask

-- 4: the stage at i has "a setting not finite or not in its range"
abbrev pub out_of_range : Setup → ℕ → Condition
out_of_range setup i = fails (in_range_of (stage_at setup i))

-- 6: the stage at i has "a remembered position .. not below its line's length"
abbrev pub lost_at : Setup → List ℕ → ℕ → Condition
lost_at setup positions i = lost_of setup.rate (stage_at setup i) (part (place_positions * i) place_positions positions)

-- 9: the progress of top stage k is "above the frame count or above the previous top stage's"
abbrev pub ahead_at : ℕ → List ℕ → ℕ → Condition
ahead_at frames progress k =
    less frames (get_or progress k 0) or both (less 0 k) (less (get_or progress (k - 1) 0) (get_or progress k 0))

-- 10: the place of the first sample "in a frame that top stage 0 has not yet run (with no stage: in any frame)"
abbrev pub unrun_from : ℕ → List ℕ → ℕ
unrun_from tops progress = cond (eqb tops 0) 0 (2 * get_or progress 0 0)

-- 10: the sample at place i, which is not before `from`, is not finite
abbrev pub bad_sample : ℕ → List Float → ℕ → Condition
bad_sample from samples i = both (at_most from i) (fails (finite_of (get_or samples i nan)))

-- ---- the table, in its parts

-- 1 to 5, about the chain; its lines need `needed` floats, and the store has `floats`
abbrev pub chain_rows : Setup → ℕ → ℕ → List (Row Answer)
chain_rows setup needed floats =
    row 1 (given 0 (less setup.rate 8000 or less 192000 setup.rate)) (λ p. Err Rate)
    ∷ row 2 (given 0 (less 16 setup.count)) (λ p. Err Stages)
    ∷ row 3 (first (used_of setup) (faulty setup)) (λ at. Err (Shape at))
    ∷ row 4 (first (used_of setup) (out_of_range setup)) (λ at. Err (Setting at))
    ∷ row 5 (given needed (less floats needed)) (λ at. Err (Store at))
    ∷ []

-- 6 to 9, about remembered positions, how many samples there are, and the progress of the top stages
abbrev pub state_rows : Setup → ℕ → List ℕ → ℕ → List ℕ → List (Row Answer)
state_rows setup tops positions samples progress =
    row 6 (first (used_of setup) (lost_at setup positions)) (λ at. Err (Position at))
    ∷ row 7 (given 0 (same (samples % 2) 1)) (λ p. Err Samples)
    ∷ row 8 (given 0 (less 4096 (samples / 2))) (λ p. Err Frames)
    ∷ row 9 (first tops (ahead_at (samples / 2) progress)) (λ at. Err (Progress at))
    ∷ []

-- 10, about the samples
abbrev pub sample_rows : ℕ → List Float → List ℕ → List (Row Answer)
sample_rows tops samples progress =
    row 10 (first (length samples) (bad_sample (unrun_from tops progress) samples)) (λ at. Err (Sample at)) ∷ []

-- all eleven (11, about the order, is `order_rows` of crate order_entries), for so many needed floats and top stages
abbrev pub all_rows : Setup → ℕ → ℕ → ℕ → List Float → List ℕ → List ℕ → List ℕ → List (Row Answer)
all_rows setup needed tops floats samples positions progress order =
    chain_rows setup needed floats
    ++ (state_rows setup tops positions (length samples) progress
    ++ (sample_rows tops samples progress
    ++ order_rows tops (length samples / 2) progress order))

-- all eleven, with the floats that the setup needs and the top stages that it has
abbrev pub refusal_rows : Setup → ℕ → List Float → List ℕ → List ℕ → List ℕ → List (Row Answer)
refusal_rows setup floats samples positions progress order =
    all_rows setup (needed_of setup) (tops_of setup) floats samples positions progress order

-- ---- the answers: that of the first row that applies, or `accepted`

-- the answer by rows 1 to 5
unfoldable pub chain_answer : Setup → ℕ → ℕ → Answer
unfolding first_row
chain_answer setup needed floats = first_row (chain_rows setup needed floats) accepted

-- the answer by rows 6 to 9
unfoldable pub state_answer : Setup → ℕ → List ℕ → ℕ → List ℕ → Answer
unfolding first_row
state_answer setup tops positions samples progress =
    first_row (state_rows setup tops positions samples progress) accepted

-- the answer by row 10
unfoldable pub sample_answer : ℕ → List Float → List ℕ → Answer
unfolding first_row
sample_answer tops samples progress = first_row (sample_rows tops samples progress) accepted

-- the answer by all eleven rows
unfoldable pub answer_of : Setup → ℕ → List Float → List ℕ → List ℕ → List ℕ → Answer
unfolding first_row
answer_of setup floats samples positions progress order =
    first_row (refusal_rows setup floats samples positions progress order) accepted
