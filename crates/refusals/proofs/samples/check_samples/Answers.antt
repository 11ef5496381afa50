-- `samples::check_samples` meets its contract: it tests the table's one row, which does not apply where no sample is left to look at. Assumes nothing.
use Rattle.std.proofs.Common.{ℕ, List, Float, refl, arith}
use Rattle.theory_tables.proofs.Decided.{is_not}
use Rattle.theory_tables.proofs.Firsts.{some_none}
use Rattle.theory_tables.proofs.Tested.{Gives, row_found, row_not_found, row_pass, row_none}
use Rattle.answer.specs.Answer.{accepted}
use Rattle.refusals.specs.Refusals.{unrun_from, bad_sample, sample_rows, sample_answer}
use Rattle.refusals.proofs.samples.check_samples.Goals as goal

-- all the rows
table : (tops : ℕ) (samples : List Float) (progress : List ℕ) → Gives (sample_rows tops samples progress) accepted (sample_answer tops samples progress)
unfolding sample_answer
table tops samples progress = record { same = refl }

pub returns-then-samples-done : goal.returns-then-samples-done
returns-then-samples-done c =
    let a = c.args in
    row_none (row_pass (table a.tops a.samples.now a.progress.now) (some_none _ _ (λ i h. is_not (bad_sample (unrun_from a.tops a.progress.now) a.samples.now i) (λ k. omega (arith, k.0, c.run_by_first-done.ensures)))))

pub returns-in-Some : goal.returns-in-Some
returns-in-Some c = let a = c.args in row_found (table a.tops a.samples.now a.progress.now) (rw (← c.run_by_first-done.ensures) c.in-Some.ensures)

pub returns : goal.returns
returns c = let a = c.args in row_none (row_not_found (table a.tops a.samples.now a.progress.now) (rw (← c.run_by_first-done.ensures) c.in_default.ensures))
