-- The combs before k are done; those from k on are still to run, and after them the all-passes. Assumes nothing.
use Rattle.std.proofs.Common.{◌≡◌, ◌+◌, ◌≤◌, length, take, sum}
use Rattle.std.proofs.Math.Seq.{slice}
use Rattle.line.specs.Held.{holds}
use Rattle.reverb_tuning.specs.Tuning.{reverb_lines}
use Rattle.reverb.specs.Reverb.{heard, comb_of, pass_of, lines_in_turn}
use Rattle.reverb.proofs.InTurn.{still}
use Rattle.reverb.proofs.side.Given as goal

abbrev pub invariant-loop-k : goal.invariant-loop-k
invariant-loop-k l =
    let eight = slice l.first (l.first + 8) (reverb_lines l.rate) in
    let comb = comb_of l.feedback l.damping l.input in
    let four = slice (l.first + 8) (l.first + 8 + 4) (reverb_lines l.rate) in
    let next = lines_in_turn 0 pass_of heard four in
    (sum eight + sum four ≤ length l.store)
    × (l.start ≡ sum (take l.k eight))
    × (lines_in_turn 1 comb next eight l.initial.sum (holds l.initial.store l.initial.positions l.initial.floats) ≡ still 1 comb next eight l.k l.start l.k l.sum (holds l.store l.positions l.floats))
