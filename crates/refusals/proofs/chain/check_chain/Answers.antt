-- `chain::check_chain` meets its contract: it tests the table row by row, and at each return the rows before it are past. Assumes nothing.
use Rattle.std.proofs.Common.{◌≡◌, refl, inl, inr, ⊎_elim, ℕ, ◌≤◌, arith, drop, lt-ltb, le-ltb, None}
use Rattle.theory_tables.specs.First.{found_of}
use Rattle.theory_tables.specs.Condition.{Condition, less, ◌or◌, decide}
use Rattle.theory_tables.proofs.Decided.{is, is_not}
use Rattle.theory_tables.proofs.Tested.{Gives, row_hit, row_found, row_not_found, row_pass, row_none}
use Rattle.stage.specs.declared.setup.Setup.{Setup}
use Rattle.stage.specs.Setup.{used_of}
use Rattle.answer.specs.Answer.{accepted}
use Rattle.refusals.specs.Shape.{faulty}
use Rattle.refusals.specs.Refusals.{out_of_range, chain_rows, chain_answer}
use Rattle.refusals.proofs.chain.check_chain.Goals as goal
use Rattle.refusals.proofs.chain.check_chain.Goals.{then-setup-lt8000-via-then-setup-lt8000, then-setup-lt8000-via-else-setup-lt8000+then-setup-gt192000}

-- "below 8,000 or above 192,000"
abbrev bad_rate : Setup → Condition
bad_rate setup = less setup.rate 8000 or less 192000 setup.rate

module _ (setup : Setup) (needed floats : ℕ) where
  -- past the first n rows
  abbrev Past : ℕ → Type 0
  Past n = Gives (drop n (chain_rows setup needed floats)) accepted (chain_answer setup needed floats)

  past_none : Past 0
  unfolding chain_answer
  past_none = record { same = refl }

  module _ (slow : 8000 ≤ setup.rate) (fast : setup.rate ≤ 192000) where
    past_rate : Past 1
    past_rate = row_pass past_none (is_not (bad_rate setup) (⊎_elim (λ h. omega arith) (λ h. omega arith)))

    module _ (few : setup.count ≤ 16) where
      past_stages : Past 2
      past_stages = row_pass past_rate (le-ltb _ _ few)

      module _ (shapes : None ≡ found_of (λ i. decide (faulty setup i)) (used_of setup)) where
        past_shape : Past 3
        past_shape = row_not_found past_stages shapes

        past_setting : None ≡ found_of (λ i. decide (out_of_range setup i)) (used_of setup) → Past 4
        past_setting settings = row_not_found past_shape settings

pub returns-then-setup-lt8000 : goal.returns-then-setup-lt8000
returns-then-setup-lt8000 c =
    row_hit
    (past_none c.args.setup.now c.args.needed c.args.floats)
    (elim c.then-setup-lt8000.branch [
      | then-setup-lt8000-via-then-setup-lt8000 w ↦ is (bad_rate c.args.setup.now) (inl w.if-setup-lt8000.true)
      | then-setup-lt8000-via-else-setup-lt8000+then-setup-gt192000 w ↦ is (bad_rate c.args.setup.now) (inr w.if-setup-gt192000.true)
    ])

pub returns-then-setup-gt-PLACES : goal.returns-then-setup-gt-PLACES
returns-then-setup-gt-PLACES c = let a = c.args in row_hit (past_rate a.setup.now a.needed a.floats c.if-setup-lt8000.false c.if-setup-gt192000.false) (lt-ltb _ _ c.if-setup-gt-PLACES.true)

pub returns-in-Some : goal.returns-in-Some
returns-in-Some c = let a = c.args in row_found (past_stages a.setup.now a.needed a.floats c.if-setup-lt8000.false c.if-setup-gt192000.false c.if-setup-gt-PLACES.false) c.in-Some.ensures

pub returns-in-Some-first_out_of_range : goal.returns-in-Some-first_out_of_range
returns-in-Some-first_out_of_range c =
    let a = c.args in
    row_found
    (past_shape a.setup.now a.needed a.floats c.if-setup-lt8000.false c.if-setup-gt192000.false c.if-setup-gt-PLACES.false c.in_default.ensures)
    c.in-Some-first_out_of_range.ensures

pub returns-then-floats-needed : goal.returns-then-floats-needed
returns-then-floats-needed c =
    let a = c.args in
    row_hit
    (past_setting a.setup.now a.needed a.floats c.if-setup-lt8000.false c.if-setup-gt192000.false c.if-setup-gt-PLACES.false c.in_default.ensures c.in_default-first_out_of_range.ensures)
    (lt-ltb _ _ c.if-floats-needed.true)

pub returns : goal.returns
returns c =
    let a = c.args in
    row_none
    (row_pass
    (past_setting a.setup.now a.needed a.floats c.if-setup-lt8000.false c.if-setup-gt192000.false c.if-setup-gt-PLACES.false c.in_default.ensures c.in_default-first_out_of_range.ensures)
    (le-ltb _ _ c.if-floats-needed.false))
