-- A table in parts, each answered by itself. Where a part refuses, its answer is the whole table's; where it accepts, none of its rows applies, and what is left of the table has the answer of the whole. Assumes nothing.
use Rattle.std.proofs.Common.{◌≡◌, refl, ap, sym, ◌∙◌, true, List, ℕ, ◌<◌, arith, take, drop, take-append-drop, eqb-true, Err}
use borrow.Author.Tests.{eqb-false}
use Rattle.theory_tables.specs.Rows.{Row, NoRow, first_row}
use Rattle.theory_tables.proofs.Tables.{Numbered, no_row, first_passed, first_refused}
use Rattle.theory_tables.proofs.Tested.{Gives}
use Rattle.answer.specs.declared.Refusal.{Refusal}
use Rattle.answer.specs.Answer.{Answer, accepted, number_of, place_of, accepted_of}
use Rattle.answer.proofs.Numbered.{accepted_numbered}

pub part_clear : (xs : List (Row Answer)) {answer : Answer} → answer ≡ first_row xs accepted → Numbered number_of place_of xs → accepted_of answer ≡ true → NoRow xs
part_clear xs {answer} e f h = no_row number_of place_of accepted xs f (ap number_of (sym e) ∙ eqb-true (number_of answer) 0 (sym (accepted_numbered answer) ∙ h))

numbered : (refusal : Refusal) → 0 < number_of (Err refusal)
numbered refusal = omega (arith, eqb-false (number_of (Err refusal)) 0 (sym (accepted_numbered (Err refusal))))

-- the first n of these rows are a part, and its answer is known
module _ {rs : List (Row Answer)} {whole : Answer} (g : Gives rs accepted whole) (n : ℕ) where
  pub part_hit : {refusal : Refusal} → Err refusal ≡ first_row (take n rs) accepted → Err refusal ≡ whole
  part_hit {refusal} e =
      let q = first_refused number_of accepted refl (take n rs) (drop n rs) (omega (arith, numbered refusal, ap number_of e)) in
      e ∙ sym (rw take-append-drop at q) ∙ g.same

  pub part_pass : Numbered number_of place_of (take n rs) → accepted ≡ first_row (take n rs) accepted → Gives (drop n rs) accepted whole
  part_pass f e =
      let q = first_passed accepted (take n rs) (drop n rs) (part_clear (take n rs) e f refl) in
      record { same = sym (rw take-append-drop at q) ∙ g.same }
