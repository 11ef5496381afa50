-- `shape::is_faulty` meets its contract: a branch for each way to be at fault. Assumes nothing.
use Rattle.std.proofs.Common.{◌≡◌, refl, ◌∙◌, ◌||◌, arith, leb, le-leb}
use borrow.Author.Tests.{lt-leb}
use Rattle.theory_tables.specs.Condition.{decide, among}
use Rattle.stage.specs.Setup.{used_of}
use Rattle.refusals.specs.Shape.{last_of, outgrows, faulty}
use Rattle.refusals.proofs.shape.is_faulty.Goals as goal
use Rattle.refusals.proofs.shape.is_faulty.Goals.{Joined-used-i, then-used-i, else-used-i}

shaped : (c : Joined-used-i) → let a = c.args in c.if-used-i.value ≡ (leb (used_of a.setup.now) (last_of a.setup.now a.i) || decide (among a.i (outgrows a.setup.now a.i)))
shaped c =
    let a = c.args in
    elim c.if-used-i.branch [
      | then-used-i w ↦ rw (le-leb (used_of a.setup.now) (last_of a.setup.now a.i) (omega (arith, w.if-used-i.true, c.used.ensures, c.owned_at.ensures))) (w.value-is ∙ le-leb _ _ w.if-used-i.true)
      | else-used-i w ↦ rw (lt-leb (used_of a.setup.now) (last_of a.setup.now a.i) (omega (arith, w.if-used-i.false, c.used.ensures, c.owned_at.ensures))) (w.value-is ∙ w.outgrows_an_owner.ensures)
    ]

pub returns-then-outgrows_an_owner : goal.returns-then-outgrows_an_owner
unfolding faulty
returns-then-outgrows_an_owner c = rw (← shaped (goal.at.returns-then-outgrows_an_owner c).Joined-used-i, c.if-outgrows_an_owner.true) refl

pub returns-else-outgrows_an_owner : goal.returns-else-outgrows_an_owner
unfolding faulty
returns-else-outgrows_an_owner c = rw (← shaped (goal.at.returns-else-outgrows_an_owner c).Joined-used-i, c.if-outgrows_an_owner.false, c.depth.ensures) refl
