-- What a call meets to which no row applies, row by row and the right way round, for the proofs that use it. Assumes nothing.
use Rattle.std.proofs.Common.{◌≡◌, true, List, ℕ, ◌+◌, ◌*◌, ◌-◌, ◌/◌, ◌%◌, ◌≤◌, ◌<◌, length, get_or, Float}
use Rattle.std.specs.Float.{nan}
use Rattle.float.specs.Finite.{finite_of}
use Rattle.theory_order.specs.Order.{Allowed}
use Rattle.theory_order.specs.Chain.{OkFrom}
use Rattle.theory_tables.specs.Condition.{Holds}
use Rattle.memories.specs.Sizes.{places, place_positions}
use Rattle.stage.specs.declared.setup.Setup.{Setup}
use Rattle.stage.specs.Setup.{stage_at, used_of}
use Rattle.line_layout.specs.Layout.{needed_of}
use Rattle.line_layout.specs.Lines.{lines_of}
use Rattle.stage.specs.Range.{in_range_of}
use Rattle.top_stages.specs.Tops.{tops_of}
use Rattle.refusals.specs.Shape.{faulty}
use Rattle.order_entries.specs.Entries.{tick}
use Rattle.refusals.specs.Refusals.{unrun_from}

pub record Clear (setup : Setup) (floats : ℕ) (samples : List Float) (positions progress order : List ℕ) : Type 0 where
  pub slow : 8000 ≤ setup.rate
  pub fast : setup.rate ≤ 192000
  pub few : setup.count ≤ places
  pub shapes : (i : ℕ) → i < used_of setup → Holds (faulty setup i) → ⊥
  pub settings : (i : ℕ) → i < used_of setup → in_range_of (stage_at setup i) ≡ true
  pub room : needed_of setup ≤ floats
  pub found : (i j : ℕ) → i < used_of setup → j < length (lines_of setup.rate (stage_at setup i)) → get_or positions (place_positions * i + j) 0 < get_or (lines_of setup.rate (stage_at setup i)) j 0
  pub even : length samples % 2 ≡ 0
  pub short : length samples / 2 ≤ 4096
  pub within : (k : ℕ) → k < tops_of setup → get_or progress k 0 ≤ length samples / 2
  pub falls : (k : ℕ) → k < tops_of setup → 0 < k → get_or progress k 0 ≤ get_or progress (k - 1) 0
  pub finite : (i : ℕ) → unrun_from (tops_of setup) progress ≤ i → i < length samples → finite_of (get_or samples i nan) ≡ true
  pub runs : Allowed tick (OkFrom (tops_of setup) (length samples / 2)) progress order
