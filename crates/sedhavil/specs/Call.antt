-- Calls that cannot be read: ranked before document 01's check 1, with numbers outside its table. Definitions only.
use Rattle.std.specs.Prelude.{cond, List, [], ◌∷◌, ℕ, ◌%◌, eqb, length}
use Rattle.theory_tables.specs.Condition.{differ}
use Rattle.theory_tables.specs.Rows.{Row, row, given, first, first_row, ByTheTable}
use Rattle.memories.specs.Sizes.{places, all_positions, all_floats}
use Rattle.answer.specs.Answer.{Answer, number_of, place_of}
use Rattle.stage_words.specs.Words.{word_count, count_of, unknown_at}
use Rattle.sedhavil.specs.declared.Reply.{Reply}
use Rattle.sedhavil.specs.declared.Room.{Room}

-- a reply with this number and this place
abbrev pub reply : ℕ → ℕ → Reply
reply number place = record { number = number; place = place }

-- the reply to a call that can be read: document 01's number and place
unfoldable pub reply_of : Answer → Reply
reply_of answer = reply (number_of answer) (place_of answer)

-- a reply with so many floats; a refusal comes with 0
unfoldable pub room_of : Reply → ℕ → Room
room_of r floats = record { number = r.number; place = r.place; floats = cond (eqb r.number 0) floats 0 }

-- 101: a slice has the wrong length: the words of the stages (place 0), positions (1), floats (2) or progress (3);
-- 102: the words at this place of the list are no stage, and all before it are.
-- It takes the words, and the lengths of positions, floats and progress
abbrev pub fault_rows : List ℕ → ℕ → ℕ → ℕ → List (Row Reply)
fault_rows words positions floats progress =
    row 101 (given 0 (differ (length words % word_count) 0)) (reply 101)
    ∷ row 101 (given 1 (differ positions all_positions)) (reply 101)
    ∷ row 101 (given 2 (differ floats all_floats)) (reply 101)
    ∷ row 101 (given 3 (differ progress places)) (reply 101)
    ∷ row 102 (first (count_of words) (unknown_at words)) (reply 102)
    ∷ []

-- why a call cannot be read; number 0 where it can
unfoldable pub fault_of : List ℕ → ℕ → ℕ → ℕ → Reply
unfolding first_row
fault_of words positions floats progress = first_row (fault_rows words positions floats progress) (reply 0 0)

-- the table in plain logic: the first row that applies is given, exactly, and no other
abbrev pub FaultTabled : Type 0
FaultTabled =
    (words : List ℕ) (positions floats progress : ℕ)
    → ByTheTable (λ r. r.number) (λ r. r.place) (fault_rows words positions floats progress) (reply 0 0)
    (fault_of words positions floats progress)

-- the first of two values where the call can be read, which is where its fault has number 0; otherwise the second
abbrev pub read : {A : Type 0} → Reply → A → A → A
read fault taken else = cond (eqb fault.number 0) taken else
