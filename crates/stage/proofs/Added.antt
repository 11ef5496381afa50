-- `with` adds a stage, as specs/Added.antt states it. Assumes nothing.
use Rattle.std.proofs.Common.{◌≡◌, refl, ap, ◌≤◌, ◌<◌, arith, length, get_or-set_same, get_or-set_other, lt-ltb, le-ltb}
use Rattle.memories.specs.Sizes.{places}
use Rattle.stage.specs.declared.kind.Stage.{Stage}
use Rattle.stage.specs.declared.setup.Slot.{Slot}
use Rattle.stage.specs.declared.setup.Setup.{Setup}
use Rattle.stage.specs.Setup.{unused, with_stage}
use Rattle.stage.specs.Added.{Added, StagesAdded}

module _ (setup : Setup) (stage : Stage) where
  -- with a place left
  added : length setup.slots ≡ places → setup.count < 16 → Added setup stage (with_stage setup stage)
  unfolding with_stage
  added all h =
      let slot : Slot = record { stage = stage } in
      rw (lt-ltb setup.count places h) (record {
        rate = refl;
        count = refl;
        last = ap (λ (s : Slot). s.stage) (get_or-set_same setup.slots setup.count slot unused (omega arith));
        others = λ i d. ap (λ (s : Slot). s.stage) (get_or-set_other setup.slots setup.count i slot unused d);
      })

  -- with none left
  refused : 16 ≤ setup.count → 16 < (with_stage setup stage).count
  unfolding with_stage
  refused h = rw (le-ltb setup.count places h) (omega arith)

pub stages_added : StagesAdded
stages_added setup stage all = record { added = added setup stage all; refused = refused setup stage }
