-- "Stages stand in one list, at most 16": a stage that is added stands at the end of the list, and the others stay
-- where they were. Definitions only.
use Rattle.std.specs.Prelude.{◌≡◌, ◌≢◌, ℕ, ◌+◌, ◌≤◌, ◌<◌, length}
use Rattle.memories.specs.Sizes.{places}
use Rattle.stage.specs.declared.kind.Stage.{Stage}
use Rattle.stage.specs.declared.setup.Setup.{Setup}
use Rattle.stage.specs.Setup.{stage_at, with_stage}

-- `more` is the chain with this stage added
pub record Added (setup : Setup) (stage : Stage) (more : Setup) : Type 0 where
  pub rate : more.rate ≡ setup.rate
  pub count : more.count ≡ setup.count + 1
  pub last : stage_at more setup.count ≡ stage
  pub others : (i : ℕ) → i ≢ setup.count → stage_at more i ≡ stage_at setup i

-- `with` adds its stage to every list that has a place left; where there is none, the count becomes one that is
-- refused
pub record WithAdds (setup : Setup) (stage : Stage) : Type 0 where
  pub added : setup.count < 16 → Added setup stage (with_stage setup stage)
  pub refused : 16 ≤ setup.count → 16 < (with_stage setup stage).count

-- so it is with every list of 16 places and every stage
abbrev pub StagesAdded : Type 0
StagesAdded = (setup : Setup) (stage : Stage) → length setup.slots ≡ places → WithAdds setup stage
