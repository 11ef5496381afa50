-- `state::check_state` meets its contract: it tests the table row by row, and at each return the rows before it are past. Assumes nothing.
use Rattle.std.proofs.Common.{◌≡◌, refl, List, ℕ, ◌≤◌, ◌/◌, ◌%◌, drop, lt-ltb, le-ltb, eq-eqb, ne_eqb, None}
use Rattle.theory_tables.specs.First.{found_of}
use Rattle.theory_tables.specs.Condition.{decide}
use Rattle.theory_tables.proofs.Tested.{Gives, row_hit, row_found, row_not_found, row_pass, row_none}
use Rattle.stage.specs.declared.setup.Setup.{Setup}
use Rattle.stage.specs.Setup.{used_of}
use Rattle.answer.specs.Answer.{accepted}
use Rattle.refusals.specs.Refusals.{lost_at, state_rows, state_answer}
use Rattle.refusals.proofs.state.check_state.Goals as goal

module _ (setup : Setup) (tops : ℕ) (positions : List ℕ) (samples : ℕ) (progress : List ℕ) where
  -- past the first n rows
  abbrev Past : ℕ → Type 0
  Past n = Gives (drop n (state_rows setup tops positions samples progress)) accepted (state_answer setup tops positions samples progress)

  past_none : Past 0
  unfolding state_answer
  past_none = record { same = refl }

  module _ (found : None ≡ found_of (λ i. decide (lost_at setup positions i)) (used_of setup)) where
    past_lost : Past 1
    past_lost = row_not_found past_none found

    module _ (even : samples % 2 ≡ 1 → ⊥) where
      past_odd : Past 2
      past_odd = row_pass past_lost (ne_eqb _ _ even)

      past_long : samples / 2 ≤ 4096 → Past 3
      past_long short = row_pass past_odd (le-ltb _ _ short)

pub returns-in-Some : goal.returns-in-Some
returns-in-Some c = let a = c.args in row_found (past_none a.setup.now a.tops a.positions.now a.samples a.progress.now) c.in-Some.ensures

pub returns-then-samples-eq1 : goal.returns-then-samples-eq1
returns-then-samples-eq1 c = let a = c.args in row_hit (past_lost a.setup.now a.tops a.positions.now a.samples a.progress.now c.in_default.ensures) (eq-eqb _ _ c.if-samples-eq1.true)

pub returns-then-frames-gt4096 : goal.returns-then-frames-gt4096
returns-then-frames-gt4096 c =
    let a = c.args in
    row_hit (past_odd a.setup.now a.tops a.positions.now a.samples a.progress.now c.in_default.ensures c.if-samples-eq1.false) (lt-ltb _ _ c.if-frames-gt4096.true)

pub returns-in-Some-first_ahead : goal.returns-in-Some-first_ahead
returns-in-Some-first_ahead c =
    let a = c.args in
    row_found
    (past_long a.setup.now a.tops a.positions.now a.samples a.progress.now c.in_default.ensures c.if-samples-eq1.false c.if-frames-gt4096.false)
    c.in-Some-first_ahead.ensures

pub returns : goal.returns
returns c =
    let a = c.args in
    row_none
    (row_not_found
    (past_long a.setup.now a.tops a.positions.now a.samples a.progress.now c.in_default.ensures c.if-samples-eq1.false c.if-frames-gt4096.false)
    c.in_default-first_ahead.ensures)
