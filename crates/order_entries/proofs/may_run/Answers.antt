-- `may_run` meets its contract: it tests the rules row by row, and at each return those before it are past. Assumes nothing.
use Rattle.std.proofs.Common.{ℕ, ◌<◌, List, refl, arith, get_or, drop, le-leb}
use borrow.Author.Tests.{lt-leb}
use Rattle.theory_tables.specs.Condition.{Holds}
use Rattle.theory_tables.proofs.Decided.{is, is_not}
use Rattle.theory_tables.proofs.Tested.{Gives, row_hit, row_pass, row_none}
use Rattle.order_entries.specs.Entries.{level_with_before, unbroken, entry_rows, rule_of}
use Rattle.order_entries.proofs.may_run.Goals as goal
use Rattle.order_entries.proofs.may_run.Goals.{else-k-gt0-via-then-k-gt0+else-number_at-done, else-k-gt0-via-else-k-gt0}

module _ (tops frames : ℕ) (progress : List ℕ) (k : ℕ) where
  -- past the first n rules
  abbrev Past : ℕ → Type 0
  Past n = Gives (drop n (entry_rows tops frames progress k)) unbroken (rule_of tops frames progress k)

  past_none : Past 0
  unfolding rule_of
  past_none = record { same = refl }

  past_stage : k < tops → Past 1
  past_stage h = row_pass past_none (lt-leb _ _ h)

  past_end : k < tops → get_or progress k 0 < frames → Past 2
  past_end h e = row_pass (past_stage h) (lt-leb _ _ e)

pub returns-then-tops-k : goal.returns-then-tops-k
returns-then-tops-k c = row_hit (past_none c.args.tops c.args.frames c.args.progress.now c.args.k) (le-leb _ _ c.if-tops-k.true)

pub returns-then-frames-done : goal.returns-then-frames-done
returns-then-frames-done c =
    row_hit (past_stage c.args.tops c.args.frames c.args.progress.now c.args.k c.if-tops-k.false) (rw (← c.number_at-done.ensures) (le-leb _ _ c.if-frames-done.true))

pub returns-then-number_at-done : goal.returns-then-number_at-done
returns-then-number_at-done c =
    row_hit
    (past_end c.args.tops c.args.frames c.args.progress.now c.args.k c.if-tops-k.false (rw (← c.number_at-done.ensures) c.if-frames-done.false))
    (is (level_with_before c.args.progress.now c.args.k) (omega arith))

pub returns-else-k-gt0 : goal.returns-else-k-gt0
returns-else-k-gt0 c =
    let not_level : Holds (level_with_before c.args.progress.now c.args.k) → ⊥ = λ h. elim c.else-k-gt0.branch [
      | else-k-gt0-via-then-k-gt0+else-number_at-done w ↦ omega (arith, w.number_at.ensures, w.if-number_at-done.false, c.number_at-done.ensures, h.1)
      | else-k-gt0-via-else-k-gt0 w ↦ omega (arith, w.if-k-gt0.false, h.0)
    ] in
    row_none
    (row_pass
    (past_end c.args.tops c.args.frames c.args.progress.now c.args.k c.if-tops-k.false (rw (← c.number_at-done.ensures) c.if-frames-done.false))
    (is_not (level_with_before c.args.progress.now c.args.k) not_level))
