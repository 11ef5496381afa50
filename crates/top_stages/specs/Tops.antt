-- Where the top stages, those that no delay owns, stand in the list. Definitions only.
use Rattle.std.specs.Prelude.{cond, ℕ, zero, suc, ◌+◌, leb}
use Rattle.theory_tables.specs.First.{first_of}
use Rattle.memories.specs.Sizes.{places}
use Rattle.stage.specs.declared.setup.Setup.{Setup}
use Rattle.stage.specs.Setup.{stage_at, used_of, next_place}
use Rattle.stage.specs.Listed.{list_from, list_of}
use Rattle.top_stages.specs.declared.Tops.{Tops}

-- the list place of top stage k, from 0; where there is none, how many places are used
unfoldable pub top_at : Setup → ℕ → ℕ
top_at setup zero = 0
top_at setup (suc k) = next_place (stage_at setup (top_at setup k)) (top_at setup k) (used_of setup)

-- how many top stages there are
unfoldable pub tops_of : Setup → ℕ
unfolding top_at
tops_of setup = first_of (λ k. leb (used_of setup) (top_at setup k)) places

-- what `Tops::of` writes at place k: where top stage k stands; after the last top stage, where that ends; then 0
abbrev pub top_or0 : Setup → ℕ → ℕ
top_or0 setup k = cond (leb k (tops_of setup)) (top_at setup k) 0

-- what `Tops::of` gives: where the top stages stand, and how many there are
unfoldable pub tops_record : Setup → Tops
unfolding top_at tops_of list_from
tops_record setup = record { places = list_of (top_or0 setup) (places + 1); n = tops_of setup }
