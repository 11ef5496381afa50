-- `place::process` meets its contract: on a stretch of places within the list it is `step` with 3 depths left, and elsewhere nothing. Assumes nothing.
use Rattle.std.proofs.Common.{sym, ◌≤◌, ◌<◌, arith}
use Rattle.memories.specs.Sizes.{places}
use Rattle.stage_step.proofs.Steps.{place_inside, place_empty, place_past}
use Rattle.stage_step.proofs.place.process.Goals as goal
use Rattle.stage_step.proofs.place.process.Goals.{then-i-e-via-then-i-e, then-i-e-via-else-i-e+then-e-gt-PLACES}

pub returns-then-i-e : goal.returns-then-i-e
returns-then-i-e c =
    elim c.then-i-e.branch [
      | then-i-e-via-then-i-e w ↦ sym (place_empty _ _ _ _ _ w.if-i-e.true)
      | then-i-e-via-else-i-e+then-e-gt-PLACES w ↦ sym (place_past _ _ _ _ _ w.if-e-gt-PLACES.true)
    ]

pub returns : goal.returns
returns c =
    let i-e : c.args.i < c.args.e = omega (arith, c.if-i-e.false) in
    let e-placed : c.args.e ≤ places = omega (arith, c.if-e-gt-PLACES.false) in
    rw (place_inside _ _ _ _ _ i-e e-placed) (c.step.ensures places (omega arith))
