-- Where lines lie in the store: "in list order", and each "begins where the last one ends". Definitions only.
use Rattle.std.specs.Prelude.{List, ℕ, zero, suc, ◌+◌, ◌-◌, get_or}
use Rattle.memories.specs.Sizes.{places}
use Rattle.stage.specs.declared.setup.Setup.{Setup}
use Rattle.stage.specs.Setup.{stage_at, used_of}
use Rattle.line_layout.specs.Lines.{floats_of}
use Rattle.stage.specs.Listed.{list_from, list_of}

-- the place in the store where the lines of the stage at i start
unfoldable pub start_of : Setup → ℕ → ℕ
start_of setup zero = 0
start_of setup (suc i) = start_of setup i + floats_of setup.rate (stage_at setup i)

-- where the lines of each of the 16 places start, and where those of the last end
unfoldable pub starts_of : Setup → List ℕ
unfolding start_of list_from
starts_of setup = list_of (start_of setup) (places + 1)

-- how many floats the lines of the stages at places i to e - 1 have, by the list of starts
unfoldable pub size_of : List ℕ → ℕ → ℕ → ℕ
size_of starts i e = get_or starts e 0 - get_or starts i 0

-- "needed floats are the sum of all lines": where the lines of the last stage that has a place end
abbrev pub needed_of : Setup → ℕ
needed_of setup = start_of setup (used_of setup)
