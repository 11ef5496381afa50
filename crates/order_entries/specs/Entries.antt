-- Refusal 11: "an entry of the order names no top stage, or a stage that has run the last frame, or one level with the
-- top stage before it". Definitions only.
use Rattle.std.specs.Prelude.{List, [], ◌∷◌, ℕ, ◌+◌, ◌-◌, length, get_or, set, take, Result, Ok, Err, ⊤}
use Rattle.theory_order.specs.Order.{run}
use Rattle.theory_tables.specs.Condition.{Condition, less, at_most, both, ◌or◌}
use Rattle.theory_tables.specs.Rows.{Row, row, given, first, first_row}
use Rattle.answer.specs.declared.Refusal.TheVariants.{Entry}
use Rattle.answer.specs.Answer.{Answer, accepted}
use Rattle.order_entries.specs.declared.Rule.{Rule}
use Rattle.order_entries.specs.declared.Rule.TheVariants.{NoStage, AtEnd, Level}

-- no rule is broken
abbrev pub unbroken : Result ⊤ Rule
unbroken = Ok tt

-- the number of the refusal that a broken rule leads to; 0 where none is broken
abbrev pub rule_number : Result ⊤ Rule → ℕ
rule_number (Ok nothing) = 0
rule_number (Err NoStage) = 11
rule_number (Err AtEnd) = 11
rule_number (Err Level) = 11

-- ---- the rules, for an entry that names k, by how many top stages and frames there are, and by the progress

-- the entry "names no top stage"
abbrev pub no_stage : ℕ → ℕ → Condition
no_stage tops k = at_most tops k

-- the entry names "a stage that has run the last frame"
abbrev pub at_end : ℕ → List ℕ → ℕ → Condition
at_end frames progress k = at_most frames (get_or progress k 0)

-- the entry names a stage "level with the top stage before it", or ahead of it; top stage 0 has none before it
abbrev pub level_with_before : List ℕ → ℕ → Condition
level_with_before progress k = both (less 0 k) (at_most (get_or progress (k - 1) 0) (get_or progress k 0))

-- the three rules as a table, in this order
abbrev pub entry_rows : ℕ → ℕ → List ℕ → ℕ → List (Row (Result ⊤ Rule))
entry_rows tops frames progress k =
    row 11 (given 0 (no_stage tops k)) (λ p. Err NoStage)
    ∷ row 11 (given 0 (at_end frames progress k)) (λ p. Err AtEnd)
    ∷ row 11 (given 0 (level_with_before progress k)) (λ p. Err Level)
    ∷ []

-- the first rule that the entry breaks; `unbroken` where it breaks none
unfoldable pub rule_of : ℕ → ℕ → List ℕ → ℕ → Result ⊤ Rule
unfolding first_row
rule_of tops frames progress k = first_row (entry_rows tops frames progress k) unbroken

-- ---- a whole order

-- "progress is counted entry by entry": top stage k has run one frame more
abbrev pub tick : ℕ → List ℕ → List ℕ
tick k progress = set progress k (get_or progress k 0 + 1)

-- the entry at place i breaks a rule, at the progress that the entries before it lead to
unfoldable pub stuck : ℕ → ℕ → List ℕ → List ℕ → ℕ → Condition
stuck tops frames progress order i =
    let counted = run tick progress (take i order) in
    let k = get_or order i 0 in
    no_stage tops k or at_end frames counted k or level_with_before counted k

-- the row of refusal 11: its place is the "place of the first such entry"
abbrev pub order_rows : ℕ → ℕ → List ℕ → List ℕ → List (Row Answer)
order_rows tops frames progress order =
    row 11 (first (length order) (stuck tops frames progress order)) (λ at. Err (Entry at)) ∷ []

-- the answer to an order: refusal 11 with its place, or `accepted`
unfoldable pub order_answer : ℕ → ℕ → List ℕ → List ℕ → Answer
unfolding first_row
order_answer tops frames progress order = first_row (order_rows tops frames progress order) accepted
