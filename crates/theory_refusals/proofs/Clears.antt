-- A call is accepted exactly where it meets what `Clear` says: no row applies to it. Assumes nothing.
use Rattle.std.proofs.Common.{◌≡◌, refl, sym, ◌∙◌, inl, inr, ⊎_elim, true, true≢false, List, ℕ, ◌+◌, ◌*◌, ◌/◌, ◌≤◌, ◌<◌, arith, lt_of_not-le, length, get_or, get_or-take, get_or-drop, Float}
use Rattle.std.specs.Float.{nan}
use borrow.Author.Tests.{not-false}
use Rattle.float.specs.Finite.{finite_of}
use Rattle.theory_order.specs.Stretch.{part}
use Rattle.theory_tables.specs.Condition.{fails}
use Rattle.theory_tables.specs.Rows.{Row, NoRow}
use Rattle.theory_tables.proofs.Decided.{is_not}
use Rattle.theory_tables.proofs.Tables.{no_row_answer}
use Rattle.memories.specs.Sizes.{places, place_positions}
use Rattle.stage.specs.declared.setup.Setup.{Setup}
use Rattle.stage.specs.Setup.{stage_at}
use Rattle.line_layout.specs.Layout.{needed_of}
use Rattle.line_layout.specs.Lines.{lines_of}
use Rattle.stage.specs.Range.{in_range_of}
use Rattle.line_layout.proofs.FewLines.{few_lines}
use Rattle.answer.specs.Answer.{Answer, accepted, accepted_of}
use Rattle.top_stages.specs.Tops.{tops_of}
use Rattle.refusals.specs.Refusals.{chain_rows, refusal_rows, chain_answer, answer_of}
use Rattle.refusals.proofs.Parts.{part_clear}
use Rattle.theory_refusals.proofs.Clear.{Clear}
use Rattle.theory_refusals.proofs.Runs.{free_runs, runs_free}

not_less : {a b : ℕ} → (a < b → ⊥) → b ≤ a
not_less h = omega arith

-- a row does not apply, and none of those after it does
infixr 5 ◌&◌
◌&◌ : {A B : Type 0} → A → B → A × B
a & b = (a, b)

module _ (setup : Setup) (floats : ℕ) (samples : List Float) (positions progress order : List ℕ) where
  abbrev frames : ℕ
  frames = length samples / 2

  abbrev tops : ℕ
  tops = tops_of setup

  -- where among all positions a place's are
  position_at : (i j : ℕ) → j < length (lines_of setup.rate (stage_at setup i)) → get_or (part (place_positions * i) place_positions positions) j 0 ≡ get_or positions (place_positions * i + j) 0
  position_at i j h = let few : j < place_positions = omega (arith, few_lines setup.rate (stage_at setup i)) in rw (get_or-take, get_or-drop)

  abbrev rows : List (Row Answer)
  rows = refusal_rows setup floats samples positions progress order

  abbrev Clears : Type 0
  Clears = Clear setup floats samples positions progress order

  clear_of_rows : NoRow rows → Clears
  clear_of_rows n = record {
    slow = not_less (λ q. n.0 (inl q));
    fast = not_less (λ q. n.0 (inr q));
    few = not_less n.1.0;
    shapes = n.1.1.0;
    settings = λ i h. not-false (in_range_of (stage_at setup i)) (is_not (fails (in_range_of (stage_at setup i))) (n.1.1.1.0 i h));
    room = not_less n.1.1.1.1.0;
    found = λ i j h g. lt_of_not-le (λ q. n.1.1.1.1.1.0 i h (j, g, rw (position_at i j g) q));
    even = omega (arith, n.1.1.1.1.1.1.0);
    short = not_less n.1.1.1.1.1.1.1.0;
    within = λ k h. not_less (λ q. n.1.1.1.1.1.1.1.1.0 k h (inl q));
    falls = λ k h g. not_less (λ q. n.1.1.1.1.1.1.1.1.0 k h (inr (g, q)));
    finite = λ i h g. not-false (finite_of (get_or samples i nan)) (is_not (fails (finite_of (get_or samples i nan))) (λ q. n.1.1.1.1.1.1.1.1.1.0 i g (h, q)));
    runs = free_runs tops frames progress order n.1.1.1.1.1.1.1.1.1.1.0;
  }

  rows_of_clear : Clears → NoRow rows
  rows_of_clear k =
      ⊎_elim (λ q. omega (arith, k.slow)) (λ q. omega (arith, k.fast))
      & (λ q. omega (arith, k.few))
      & k.shapes
      & (λ i h q. true≢false (sym (k.settings i h) ∙ q))
      & (λ q. omega (arith, k.room))
      & (λ i h q. omega (arith, k.found i q.0 h q.1, position_at i q.0 q.1, q.2))
      & (λ q. omega (arith, k.even))
      & (λ q. omega (arith, k.short))
      & (λ i h. ⊎_elim (λ q. omega (arith, k.within i h)) (λ q. omega (arith, k.falls i h q.0, q.1)))
      & (λ i h q. true≢false (sym (k.finite i q.0 h) ∙ q.1))
      & runs_free tops frames progress order k.runs
      & tt

  pub clear_of_accepted : accepted_of (answer_of setup floats samples positions progress order) ≡ true → Clears
  unfolding answer_of
  clear_of_accepted h = clear_of_rows (part_clear rows refl (omega arith) h)

  pub accepted_of_clear : Clears → answer_of setup floats samples positions progress order ≡ accepted
  unfolding answer_of
  accepted_of_clear k = no_row_answer accepted rows (rows_of_clear k)

-- of a fresh start: every stage has a place
pub start_few : (setup : Setup) (floats : ℕ) → accepted_of (chain_answer setup (needed_of setup) floats) ≡ true → setup.count ≤ places
unfolding chain_answer
start_few setup floats h = not_less (part_clear (chain_rows setup (needed_of setup) floats) refl (omega arith) h).1.0
