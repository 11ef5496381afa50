-- `call::first_refusal` meets its contract: it asks the table part by part, and at each return the parts before it are past. Assumes nothing.
use Rattle.std.proofs.Common.{◌≡◌, refl, ◌∙◌, List, ℕ, arith, Float, length, drop}
use Rattle.std.proofs.lemmas.Result.{err_from_is_err_and}
use Rattle.theory_tables.specs.Rows.{first_row}
use Rattle.theory_tables.proofs.Tested.{Gives}
use Rattle.stage.specs.declared.setup.Setup.{Setup}
use Rattle.answer.specs.Answer.{accepted}
use Rattle.order_entries.specs.Entries.{order_answer}
use Rattle.refusals.specs.Refusals.{all_rows, chain_answer, state_answer, sample_answer}
use Rattle.refusals.proofs.Parts.{part_hit, part_pass}
use Rattle.refusals.proofs.call.first_refusal.Goals as goal

module _ (setup : Setup) (needed tops floats : ℕ) (samples : List Float) (positions progress order : List ℕ) where
  -- past the first n rows
  abbrev Past : ℕ → Type 0
  Past n = let rows = all_rows setup needed tops floats samples positions progress order in Gives (drop n rows) accepted (first_row rows accepted)

  past_none : Past 0
  past_none = record { same = refl }

  module _ (chain : accepted ≡ chain_answer setup needed floats) where
    past_chain : Past 5
    unfolding chain_answer
    past_chain = part_pass past_none 5 (omega arith) chain

    module _ (state : accepted ≡ state_answer setup tops positions (length samples) progress) where
      past_state : Past 9
      unfolding state_answer
      past_state = part_pass past_chain 4 (omega arith) state

      past_samples : accepted ≡ sample_answer tops samples progress → Past 10
      unfolding sample_answer
      past_samples sample = part_pass past_state 1 (omega arith) sample

pub returns-in_err-check_chain : goal.returns-in_err-check_chain
unfolding chain_answer
returns-in_err-check_chain c =
    let a = c.args in
    let p = err_from_is_err_and c.from_residual.result c.from_residual.ensures.1 in
    rw (p.1, p.2) (part_hit (past_none a.setup.now a.needed a.tops a.floats a.samples.now a.positions.now a.progress.now a.order.now) 5 c.in_err-check_chain.ensures)

pub returns-in_err-check_state : goal.returns-in_err-check_state
unfolding state_answer
returns-in_err-check_state c =
    let a = c.args in
    let p = err_from_is_err_and c.from_residual-in_err-check_state.result c.from_residual-in_err-check_state.ensures.1 in
    rw (p.1, p.2) (part_hit (past_chain a.setup.now a.needed a.tops a.floats a.samples.now a.positions.now a.progress.now a.order.now c.in_ok-check_chain.ensures) 4 c.in_err-check_state.ensures)

pub returns-in_err-check_samples : goal.returns-in_err-check_samples
unfolding sample_answer
returns-in_err-check_samples c =
    let a = c.args in
    let p = err_from_is_err_and c.from_residual-in_err-check_samples.result c.from_residual-in_err-check_samples.ensures.1 in
    rw (p.1, p.2) (part_hit (past_state a.setup.now a.needed a.tops a.floats a.samples.now a.positions.now a.progress.now a.order.now c.in_ok-check_chain.ensures c.in_ok-check_state.ensures) 1 c.in_err-check_samples.ensures)

pub returns : goal.returns
unfolding order_answer
returns c =
    let a = c.args in
    c.check_order.ensures
    ∙ (past_samples a.setup.now a.needed a.tops a.floats a.samples.now a.positions.now a.progress.now a.order.now c.in_ok-check_chain.ensures c.in_ok-check_state.ensures c.in_ok-check_samples.ensures).same
