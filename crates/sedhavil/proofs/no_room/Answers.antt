-- Whatever the number, there are no floats. Assumes nothing.
use Rattle.std.proofs.Common.{◌≡◌, refl, ap, Bool, true, false, cond, ℕ, eqb}
use Rattle.sedhavil.specs.declared.Room.{Room}
use Rattle.sedhavil.specs.Call.{room_of}
use Rattle.sedhavil.proofs.no_room.Goals as goal

none : (b : Bool) → ◌≡◌ {A = ℕ} 0 (cond b 0 0)
none true = refl
none false = refl

pub returns : goal.returns
unfolding room_of
returns c = ap {B = Room} (λ (n : ℕ). record { number = c.args.refused.number; place = c.args.refused.place; floats = n }) (none (eqb c.args.refused.number 0))
