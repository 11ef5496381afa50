-- `lines::reverb_lost` meets its contract: some line, or none, has the position off it. Assumes nothing.
use Rattle.std.proofs.Common.{◌≡◌, sym, Bool, true, false, List, ℕ, ◌<◌, leb, get_or, rules}
use Rattle.std.proofs.iter.runs.Sources.{ranges}
use Rattle.std.specs.Bool.{MatchBool}
use Rattle.reverb_tuning.specs.Tuning.{line_count, reverb_lines}
use Rattle.reverb_tuning.proofs.Tunings.{lines_length}
use Rattle.theory_tables.specs.First.{some}
use Rattle.theory_tables.proofs.Firsts.{some_hit, some_none}
use Rattle.line_layout.proofs.lines.reverb_lost.Goals as goal

-- what is told of the numbers below n is `some`
some_told : (t : ℕ → Bool) (n : ℕ) (r : Bool) → MatchBool r ((j : ℕ) × (j < n) × (t j ≡ true)) ((j : ℕ) → j < n → t j ≡ false) → r ≡ some t n
some_told t n true told = sym (some_hit t n told.0 told.1 told.2)
some_told t n false told = sym (some_none t n told)

-- position j is not on line j
abbrev off : List ℕ → List ℕ → ℕ → Bool
off lines positions j = leb (get_or lines j 0) (get_or positions j 0)

pub returns : goal.returns
returns c =
    let lines = reverb_lines c.args.rate in
    let positions = c.args.positions.now in
    let told : MatchBool c.any.result ((j : ℕ) × (j < line_count) × (off lines positions j ≡ true)) ((j : ℕ) → j < line_count → off lines positions j ≡ false) = search (rules, ranges) in
    rw (lines_length c.args.rate) (some_told (off lines positions) line_count _ told)
