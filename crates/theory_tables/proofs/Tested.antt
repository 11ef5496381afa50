-- A table tested row by row: what is left of it, where the rows before do not apply, has the answer of the whole. Assumes nothing.
use Rattle.std.proofs.Common.{◌≡◌, ap, sym, ◌∙◌, true, false, List, [], ◌∷◌, ℕ, Some, None}
use Rattle.theory_tables.specs.First.{found_of}
use Rattle.theory_tables.specs.Condition.{Condition, decide}
use Rattle.theory_tables.specs.Rows.{Row, row, first, applies, place_in, first_row}
use Rattle.theory_tables.proofs.Firsts.{found_some, found_none}

-- these rows, with `other` where none applies, give this answer
pub record Gives {A : Type 0} (rs : List (Row A)) (other answer : A) : Type 0 where
  pub same : first_row rs other ≡ answer

module _ {A : Type 0} {other answer : A} where
  module _ {r : Row A} {rs : List (Row A)} (g : Gives (r ∷ rs) other answer) where
    pub row_hit : applies r.when ≡ true → r.answer (place_in r.when) ≡ answer
    unfolding first_row
    row_hit e = rw e at g.same

    pub row_pass : applies r.when ≡ false → Gives rs other answer
    unfolding first_row
    row_pass e = record { same = rw e at g.same }

  pub row_none : Gives [] other answer → other ≡ answer
  unfolding first_row
  row_none g = g.same

  -- a row that looks for its place: it is found, or there is none
  module _ {number n : ℕ} {c : ℕ → Condition} {make : ℕ → A} {rs : List (Row A)} (g : Gives (row number (first n c) make ∷ rs) other answer) where
    pub row_found : {k : ℕ} → Some k ≡ found_of (λ i. decide (c i)) n → make k ≡ answer
    row_found e = let q = found_some _ n e in ap make (sym q.1) ∙ row_hit g q.0

    pub row_not_found : None ≡ found_of (λ i. decide (c i)) n → Gives rs other answer
    row_not_found e = row_pass g (found_none _ n e)
