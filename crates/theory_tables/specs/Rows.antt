-- A table of refusals: "the first that applies, in this order, is given", with its number and place. A row says its
-- condition once; what that means in plain logic and how it is tested both follow from it. Definitions only.
use Rattle.std.specs.Prelude.{◌≡◌, ◌⊎◌, Bool, cond, List, [], ◌∷◌, ℕ, ◌<◌}
use Rattle.theory_tables.specs.First.{first_of, some}
use Rattle.theory_tables.specs.Condition.{Condition, Holds, decide}

-- when a row applies, and with which place
pub data When : Type 0 where
  -- where the condition is met, with this place
  given : ℕ → Condition → When
  -- where the condition is met at one of the first n places, with the first such place
  first : ℕ → (ℕ → Condition) → When

-- a row: its number, when it applies, and its answer, which may depend on the place
pub record Row (A : Type 0) : Type 0 where
  pub number : ℕ
  pub when : When
  pub answer : ℕ → A

-- the row with this number, `When` and answer
abbrev pub row : {A : Type 0} → ℕ → When → (ℕ → A) → Row A
row number when answer = record { number = number; when = when; answer = answer }

-- ---- in plain logic

-- the row applies, with place p
abbrev pub AppliesAt : When → ℕ → Type 0
AppliesAt (given place c) p = Holds c × (p ≡ place)
AppliesAt (first n c) p = (p < n) × Holds (c p) × ((j : ℕ) → j < p → Holds (c j) → ⊥)

-- the row does not apply
abbrev pub Never : When → Type 0
Never (given place c) = Holds c → ⊥
Never (first n c) = (i : ℕ) → i < n → Holds (c i) → ⊥

module _ {A : Type 0} where
  -- no row applies
  abbrev pub NoRow : List (Row A) → Type 0
  NoRow [] = Unit {0}
  NoRow (r ∷ rs) = Never r.when × NoRow rs

  -- the first row that applies has number n, and applies with place p
  abbrev pub Given : List (Row A) → ℕ → ℕ → Type 0
  Given [] n p = ⊥
  Given (r ∷ rs) n p = ((r.number ≡ n) × AppliesAt r.when p) ⊎ (Never r.when × Given rs n p)

  -- the answer is what the table says: where no row applies it is `other`, and it has number 0 only then; else it has
  -- the number and the place of the first row that applies
  pub record ByTheTable (number_of place_of : A → ℕ) (rows : List (Row A)) (other answer : A) : Type 0 where
    pub accepted : NoRow rows → answer ≡ other
    pub clear : number_of answer ≡ 0 → NoRow rows
    pub refused : 0 < number_of answer → Given rows (number_of answer) (place_of answer)
    pub exactly : (n p : ℕ) → Given rows n p → (number_of answer ≡ n) × (place_of answer ≡ p)

-- ---- as a test

-- whether the row applies
abbrev pub applies : When → Bool
applies (given place c) = decide c
applies (first n c) = some (λ i. decide (c i)) n

-- the place with which the row applies, where it does
abbrev pub place_in : When → ℕ
place_in (given place c) = place
place_in (first n c) = first_of (λ i. decide (c i)) n

-- the answer of the first row that applies; `other` where none does
unfoldable pub first_row : {A : Type 0} → List (Row A) → A → A
first_row [] other = other
first_row (r ∷ rs) other = cond (applies r.when) (r.answer (place_in r.when)) (first_row rs other)
