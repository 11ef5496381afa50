-- Demand 1: "a refusal comes exactly under its condition, gives its number and place": each row's answer has the row's number and place, and the rest is the law of a table. Assumes nothing.
use Rattle.std.proofs.Common.{refl, List, ℕ, arith, Float}
use Rattle.theory_tables.specs.Rows.{ByTheTable}
use Rattle.theory_tables.proofs.Tables.{by_the_table as law}
use Rattle.stage.specs.declared.setup.Setup.{Setup}
use Rattle.line_layout.specs.Layout.{needed_of}
use Rattle.answer.specs.Answer.{accepted, number_of, place_of}
use Rattle.refusals.specs.Refusals.{chain_rows, refusal_rows, chain_answer, answer_of}

module _ (setup : Setup) (floats : ℕ) where
  -- of a fresh start
  pub start_by_the_table : ByTheTable number_of place_of (chain_rows setup (needed_of setup) floats) accepted (chain_answer setup (needed_of setup) floats)
  unfolding chain_answer
  start_by_the_table = law (omega arith) refl

  -- of a run
  pub by_the_table : (samples : List Float) (positions progress order : List ℕ) → ByTheTable number_of place_of (refusal_rows setup floats samples positions progress order) accepted (answer_of setup floats samples positions progress order)
  unfolding answer_of
  by_the_table samples positions progress order = law (omega arith) refl
