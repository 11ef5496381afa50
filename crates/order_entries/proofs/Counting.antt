-- The check of an order, entry by entry: an entry is stuck exactly where the test of it has a number, and the loop that counts progress and looks for the first such entry. Assumes nothing.
use Rattle.std.proofs.Common.{◌≡◌, refl, ap, sym, ◌∙◌, Bool, true, false, cond, not, ◌||◌, List, ◌∷◌, ℕ, ◌+◌, ◌-◌, ◌<◌, arith, lt_of_not-le, add-one, length, get_or, take, drop, length-drop, take-suc, get_or-drop, drop-drop, eqb, eq-eqb, ne_eqb, Err}
use mathlib.Core.Logic.{◌≢◌}
use Rattle.theory_order.specs.Order.{run}
use Rattle.theory_order.proofs.Orders.{run_append}
use Rattle.theory_tables.specs.Condition.{decide}
use Rattle.theory_tables.specs.Rows.{first_row}
use Rattle.theory_tables.proofs.Firsts.{Looked, look_start, look_on, look_some, look_none}
use Rattle.theory_tables.proofs.Tables.{no_row}
use Rattle.theory_tables.proofs.Tested.{Gives, row_found, row_not_found, row_none}
use Rattle.answer.specs.declared.Refusal.TheVariants.{Entry}
use Rattle.answer.specs.Answer.{accepted}
use Rattle.order_entries.specs.declared.Rule.TheVariants.{NoStage, AtEnd, Level}
use Rattle.order_entries.specs.Entries.{no_stage, at_end, level_with_before, unbroken, entry_rows, rule_number, rule_of, tick, stuck, order_rows, order_answer}

-- a stage that may be run has a frame left
pub kept_room : (tops frames : ℕ) (progress : List ℕ) (k : ℕ) → rule_number (rule_of tops frames progress k) ≡ 0 → get_or progress k 0 < frames
unfolding rule_of
kept_room tops frames progress k e = lt_of_not-le (no_row rule_number (λ rule. 0) unbroken (entry_rows tops frames progress k) (omega arith) e).1.0

module _ (tops frames : ℕ) (progress order : List ℕ) where
  -- the progress when i entries are counted
  abbrev at : ℕ → List ℕ
  at i = run tick progress (take i order)

  abbrev test : ℕ → Bool
  test i = decide (stuck tops frames progress order i)

  pub stuck_numbered : (i : ℕ) → test i ≡ not (eqb (rule_number (rule_of tops frames (at i) (get_or order i 0))) 0)
  unfolding stuck rule_of first_row
  stuck_numbered i = let k = get_or order i 0 in go (decide (no_stage tops k)) (decide (at_end frames (at i) k)) (decide (level_with_before (at i) k))
    where
      go : (a b c : Bool) → (a || b || c) ≡ not (eqb (rule_number (cond a (Err NoStage) (cond b (Err AtEnd) (cond c (Err Level) unbroken)))) 0)
      go true b c = refl
      go false true c = refl
      go false false true = refl
      go false false false = refl

  table : Gives (order_rows tops frames progress order) accepted (order_answer tops frames progress order)
  unfolding order_answer
  table = record { same = refl }

  -- ---- so many entries are read, none of which is stuck: this is the progress then, and these are unread
  pub record Counted (counted unread : List ℕ) : Type 0 where
    pub read : ℕ
    pub looked : Looked test (length order) read
    pub counts : counted ≡ at read
    pub rest : unread ≡ drop read order

  pub count_start : Counted progress order
  count_start = record { read = 0; looked = look_start; counts = refl; rest = refl }

  module _ {counted unread : List ℕ} (s : Counted counted unread) where
    pub count_unread : length unread ≡ length order - s.read
    count_unread = rw s.rest (length-drop s.read order)

    pub count_over : length unread ≡ 0 → accepted ≡ order_answer tops frames progress order
    count_over h = row_none (row_not_found table (look_none s.looked (omega (arith, count_unread))))

  -- the first unread entry is k
  module _ {counted unread rest : List ℕ} {k : ℕ} (e : unread ≡ k ∷ rest) (s : Counted counted unread) where
    more : s.read < length order
    more = omega (arith, count_unread s, ap (length {A = ℕ}) e)

    here : k ≡ get_or order s.read 0
    here =
        let q : s.read + 0 ≡ s.read = omega arith in
        sym (ap (λ (xs : List ℕ). get_or xs 0 0) (sym s.rest ∙ e)) ∙ get_or-drop s.read order 0 0 ∙ ap (λ i. get_or order i 0) q

    -- of the test of it
    abbrev pub number : ℕ
    number = rule_number (rule_of tops frames counted k)

    tested : test s.read ≡ not (eqb number 0)
    tested = rw (here, s.counts) (stuck_numbered s.read)

    pub count_found : number ≢ 0 → Err (Entry (length order - length unread)) ≡ order_answer tops frames progress order
    count_found q =
        let r : length order - length unread ≡ s.read = omega (arith, count_unread s, s.looked.within) in
        rw r (row_found table (look_some s.looked more (tested ∙ ap not (ne_eqb number 0 q))))

    pub count_on : number ≡ 0 → Counted (tick k counted) rest
    count_on q = record {
      read = s.read + 1;
      looked = look_on s.looked more (tested ∙ ap not (eq-eqb number 0 q));
      counts = rw (here, s.counts) (sym (ap (λ (xs : List ℕ). run tick progress xs) (ap (λ (n : ℕ). take n order) (add-one s.read) ∙ take-suc order s.read 0 more) ∙ run_append tick (take s.read order) _ progress));
      rest = ap (drop 1) (sym e ∙ s.rest) ∙ drop-drop 1 s.read order;
    }
