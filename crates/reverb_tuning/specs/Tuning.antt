-- A reverb's lines: "at rate R a line of n has floor(n * R / 44100) floats". Definitions only.
use Rattle.std.specs.Prelude.{List, [], ◌∷◌, ◌++◌, map, sum, ℕ, ◌+◌, ◌*◌, ◌/◌}

-- the combs of one side
abbrev pub side_combs : ℕ
side_combs = 8

-- the lines of one side: eight combs, then four all-passes
abbrev pub side_lines : ℕ
side_lines = 12

-- the combs of both sides
abbrev pub comb_count : ℕ
comb_count = 2 * side_combs

-- the lines of both sides
abbrev pub line_count : ℕ
line_count = 2 * side_lines

-- "lines, left side: 1116, 1188, 1277, 1356, 1422, 1491, 1557, 1617, then 556, 441, 341, 225"
abbrev pub tunings : List ℕ
tunings = 1116 ∷ 1188 ∷ 1277 ∷ 1356 ∷ 1422 ∷ 1491 ∷ 1557 ∷ 1617 ∷ 556 ∷ 441 ∷ 341 ∷ 225 ∷ []

-- all lines, the left side's first: "right side 23 more each"
abbrev pub reverb_tunings : List ℕ
reverb_tunings = tunings ++ map (λ n. n + 23) tunings

-- the floats of a line of n at this rate; the division rounds down
unfoldable pub length_of : ℕ → ℕ → ℕ
length_of n rate = n * rate / 44100

-- the floats of each of a reverb's lines at this rate
unfoldable pub reverb_lines : ℕ → List ℕ
unfolding length_of
reverb_lines rate = map (λ n. length_of n rate) reverb_tunings

-- the floats of all of a reverb's lines together, as in "needed floats are the sum of all lines"
unfoldable pub reverb_floats : ℕ → ℕ
unfolding reverb_lines
reverb_floats rate = sum (reverb_lines rate)
