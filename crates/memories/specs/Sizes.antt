-- How much stages remember, in all and at each list place, and which part each kind uses. Definitions only.
use Rattle.std.specs.Prelude.{ℕ, ◌+◌, ◌*◌, ◌/◌}
use Rattle.reverb_tuning.specs.Tuning.{comb_count, line_count}

-- how many places the list of stages has: "stages stand in one list, at most 16"
abbrev pub places : ℕ
places = 16

-- the positions of one place, "one per line": enough for a reverb, which has the most lines; a delay uses the first
abbrev pub place_positions : ℕ
place_positions = line_count

-- where the first frame of a filter or an EQ lies among a place's floats, counted in frames: after the floats of a
-- reverb's combs, one for each comb
abbrev pub ic1eq_at : ℕ
ic1eq_at = comb_count / 2

-- where the second frame of a filter or an EQ lies: right after the first
abbrev pub ic2eq_at : ℕ
ic2eq_at = ic1eq_at + 1

-- the floats of one place: up to the end of the second frame
abbrev pub place_floats : ℕ
place_floats = 2 * (ic2eq_at + 1)

-- the positions of all places
abbrev pub all_positions : ℕ
all_positions = places * place_positions

-- the floats of all places
abbrev pub all_floats : ℕ
all_floats = places * place_floats
