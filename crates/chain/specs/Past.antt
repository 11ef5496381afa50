-- Document 01: "Floats past the last line never change". This is so of every call, refused or not, and so it is with
-- all else that belongs to no stage. Definitions only.
use Rattle.std.specs.Prelude.{◌≡◌, List, ℕ, ◌*◌, Float, length}
use Rattle.line.specs.Held.{Held}
use Rattle.theory_order.specs.Chain.{State}
use Rattle.memories.specs.Sizes.{place_positions, place_floats}
use Rattle.stage.specs.declared.setup.Setup.{Setup}
use Rattle.stage.specs.Setup.{used_of}
use Rattle.line_layout.specs.Layout.{needed_of}
use Rattle.top_stages.specs.Tops.{tops_of}
use Rattle.fresh_start.specs.Start.{started_of}
use Rattle.chain.specs.Run.{leaves_of, rendered_of}
use Rattle.chain.specs.Demands.{Arrays, Outside}

-- what belongs to no stage is the same in z as in s; `Outside 0 e` says that a list is as long as it was, and the same
-- from place e on
pub record PastKept (setup : Setup) (s z : State Float Held) : Type 0 where
  -- there are as many samples
  pub samples : length z.samples ≡ length s.samples
  -- the floats past the last line
  pub store : Outside 0 (needed_of setup) s.held.store z.held.store
  -- the memories of places that no stage of the list uses
  pub positions : Outside 0 (place_positions * used_of setup) s.held.positions z.held.positions
  pub floats : Outside 0 (place_floats * used_of setup) s.held.floats z.held.floats
  -- the progress past that of the last top stage
  pub progress : Outside 0 (tops_of setup) s.progress z.progress

-- no call changes what belongs to no stage: neither `run`, with any order, nor `render`, nor `start`, which is lent the
-- store alone
pub record NeverChange (setup : Setup) (s : State Float Held) : Type 0 where
  pub run : (order : List ℕ) → PastKept setup s (leaves_of setup s order)
  pub render : PastKept setup s (rendered_of setup s)
  pub start : Outside 0 (needed_of setup) s.held.store (started_of setup s.held.store)

-- "floats past the last line never change", whatever the chain and the block
abbrev pub PastStays : Type 0
PastStays = (setup : Setup) (s : State Float Held) → Arrays s → NeverChange setup s
