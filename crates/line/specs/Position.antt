-- The next position on a line: one on, and from the last place to the first. Definitions only.
use Rattle.std.specs.Prelude.{cond, ℕ, ◌+◌, ltb}

-- the position after `at` on a line of this length; 0 from the last place on, past the end included
unfoldable pub next_position : ℕ → ℕ → ℕ
next_position at length = cond (ltb (at + 1) length) (at + 1) 0
