-- A line with a position on it, in three parts: what stands before the position, what stands at it, and what stands
-- after it. So no position is off its line, and every read and store is on it. Of a comb and an all-pass these are
-- kira's `buffer` and `current_index`. A delay of kira's shifts its `buffer`; here its position moves on instead, and
-- what stands at it is the oldest frame. Definitions only.
use Rattle.std.specs.Prelude.{List, [], ◌∷◌, ◌++◌, ℕ, length}

-- the three parts
pub record Line (A : Type 0) : Type 0 where
  pub before : List A
  pub here : A
  pub after : List A

module _ {A : Type 0} where
  -- the three parts as one record
  abbrev pub line : List A → A → List A → Line A
  line before here after = record { before = before; here = here; after = after }

  -- kira's `buffer`: all of the line, from its first place on
  abbrev pub buffer : Line A → List A
  buffer l = l.before ++ (l.here ∷ l.after)

  -- kira's `current_index`: the position, counted from 0
  abbrev pub position : Line A → ℕ
  position l = length l.before

  -- `current_index += 1; current_index %= buffer.len()`: the line of these three parts, with its position one place on;
  -- from the last place it goes to the first
  unfoldable pub onward : List A → A → List A → Line A
  onward before here (x ∷ after) = line (before ++ (here ∷ [])) x after
  onward [] here [] = line [] here []
  onward (x ∷ before) here [] = line [] x (before ++ (here ∷ []))

  -- `buffer[current_index] = y`, and one place on
  abbrev pub stored : A → Line A → Line A
  stored y l = onward l.before y l.after
