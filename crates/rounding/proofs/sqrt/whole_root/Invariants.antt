use Rattle.std.proofs.Common.{◌≤◌}
use Rattle.rounding.proofs.RootDigit.{Turn}
use Rattle.rounding.proofs.sqrt.whole_root.Given as goal

abbrev pub invariant-loop-i : goal.invariant-loop-i
invariant-loop-i l = (l._i ≤ l.n) × (l.n ≤ 53) × Turn l.w l._i l.root l.rest l.word
