-- What stages hold, in two parts: what the first n places hold, and what the places after them hold. Definitions only.
use Rattle.std.specs.Prelude.{ℕ, ◌*◌}
use Rattle.line.specs.Held.{Held, front, back}
use Rattle.memories.specs.Sizes.{place_positions, place_floats}

-- what the first n places hold: the first `lines` floats of the store, which are their lines, and their memories
abbrev pub front_places : ℕ → ℕ → Held → Held
front_places lines n h = front lines (place_positions * n) (place_floats * n) h

-- what the places after them hold: the store past those floats, and the memories past those of n places
abbrev pub back_places : ℕ → ℕ → Held → Held
back_places lines n h = back lines (place_positions * n) (place_floats * n) h
