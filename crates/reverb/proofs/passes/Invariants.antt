-- The all-passes before k are done, and those from k on are still to run. Assumes nothing.
use Rattle.std.proofs.Common.{◌≡◌, List, ◌+◌, take, sum, Float}
use Rattle.std.proofs.Math.Seq.{slice}
use Rattle.line.specs.Held.{holds}
use Rattle.reverb_tuning.specs.Tuning.{reverb_lines}
use Rattle.reverb.specs.Reverb.{heard, pass_of, lines_in_turn}
use Rattle.reverb.proofs.InTurn.{still}
use Rattle.reverb.proofs.passes.Given as goal

abbrev pub invariant-loop-k : goal.invariant-loop-k
invariant-loop-k l =
    let lines = slice l.first (l.first + 4) (reverb_lines l.rate) in
    (l.start ≡ sum (take l.k lines))
    × ((floats : List Float) → lines_in_turn 0 pass_of heard lines l.initial.output (holds l.initial.store l.initial.positions floats) ≡ still 0 pass_of heard lines l.k l.start 0 l.output (holds l.store l.positions floats))
