use Rattle.std.proofs.Common.{◌≡◌, suc, ◌+◌, ◌-◌, ◌*◌, ◌/◌, ◌≤◌, arith}
use lib.Count.{count_leading_zeros}
use Rattle.rounding.proofs.Aligned.{lead, aligned_root}
use Rattle.rounding.proofs.sqrt.scaled_root.Goals as goal
use Rattle.rounding.proofs.sqrt.scaled_root.Goals.{then-length-eq0, else-length-eq0}

pub overflow_sub-shift : goal.overflow_sub-shift
overflow_sub-shift c = let t = lead c.args.q c.requires.some c.requires.short in omega (arith, t.1, t.4)

pub returns : goal.returns
returns c =
    let a = c.args in
    let pre = c.requires in
    let t = lead a.q pre.some pre.short in
    let z = count_leading_zeros 64 a.q in
    let t1 : z + suc t.0 ≡ 64 = t.1 in
    let t4 : suc t.0 ≤ 53 = t.4 in
    let f = c.nearest_root-digits in
    let s = c.if-length-eq0.shift in
    let m : (s + (a.j + 64 - z + 1) / 2 * 2 ≡ a.j + 64) × (s ≤ z) × (z ≤ s + 1) = elim c.if-length-eq0.branch [ then-length-eq0 w ↦ (omega arith, omega arith, omega arith) | else-length-eq0 w ↦ (omega arith, omega arith, omega arith) ] in
    aligned_root a.q a.j a.p s f.result pre m.0 m.1 m.2 f.ensures.0 f.ensures.1
