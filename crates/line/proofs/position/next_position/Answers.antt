-- `next_position` meets its contract: the definition by its test. Assumes nothing.
use Rattle.std.proofs.Common.{◌+◌, arith, lt-ltb, le-ltb}
use Rattle.line.specs.Position.{next_position}
use Rattle.line.proofs.position.next_position.Goals as goal

pub returns-in-Some : goal.returns-in-Some
unfolding next_position
returns-in-Some c = let a = c.args in rw (lt-ltb (a.at + 1) a.length (omega arith)) (omega arith)

pub returns-in_default : goal.returns-in_default
unfolding next_position
returns-in_default c = let a = c.args in simp (le-ltb (a.at + 1) a.length (omega arith))

pub returns-in_default-2 : goal.returns-in_default-2
unfolding next_position
returns-in_default-2 c = let a = c.args in simp (le-ltb (a.at + 1) a.length (omega arith))
