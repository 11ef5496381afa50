-- A chain as one value: its rate, how many stages it has, and the list of their places. Definitions only.
use Rattle.std.specs.Prelude.{cond, ℕ, ◌+◌, ◌-◌, min, ltb, pos, get_or, set, replicate}
use Rattle.memories.specs.Sizes.{places}
use Rattle.stage.specs.declared.kind.Stage.{Stage}
use Rattle.stage.specs.declared.kind.Stage.TheVariants.{VolumeControl}
use Rattle.stage.specs.declared.setup.Slot.{Slot}
use Rattle.stage.specs.declared.setup.Setup.{Setup}
use Rattle.stage.specs.Holding.{holding_of, owned_of}

-- a volume of 0 dB: what the places of an empty setup hold, and what is read past the list's end
abbrev pub unused : Slot
unused = record { stage = VolumeControl (pos 0) }

-- the stage at list place i; past the list's end, a volume of 0 dB
abbrev pub stage_at : Setup → ℕ → Stage
stage_at setup i = (get_or setup.slots i unused).stage

-- how many places are used: 16 where there are more stages, which is refused
abbrev pub used_of : Setup → ℕ
used_of setup = min setup.count places

-- a chain of no stages, at this rate
unfoldable pub empty_setup : ℕ → Setup
empty_setup rate = record { rate = rate; count = 0; slots = replicate places unused }

-- the chain with one stage more, at its end; where all 16 places are taken, the stage is not kept and the count is 17,
-- which is refused
unfoldable pub with_stage : Setup → Stage → Setup
with_stage setup stage =
    cond (ltb setup.count places)
    (record {
      rate = setup.rate;
      count = setup.count + 1;
      slots = set setup.slots setup.count (record { stage = stage });
    })
    (record { rate = setup.rate; count = places + 1; slots = setup.slots })

-- the place after the stage at i and all that it owns, but no further than `end`
unfoldable pub next_place : Stage → ℕ → ℕ → ℕ
unfolding holding_of
next_place stage i end = cond (ltb (owned_of stage) (end - i)) (i + 1 + owned_of stage) end
