use Rattle.std.proofs.Common.{◌≡◌, sym, ap, ◌∙◌, ℕ, ◌+◌, ◌-◌, arith, get_or}
use lib.ListN.{get_or-eq_default}
use Rattle.reverb_tuning.specs.Tuning.{reverb_lines}
use Rattle.reverb_tuning.proofs.Tunings.{lines_length, left_line, right_line}
use Rattle.reverb_tuning.proofs.reverb_line.Goals as goal

pub returns-in-0-to-11 : goal.returns-in-0-to-11
returns-in-0-to-11 c = c.line_length.ensures ∙ sym (left_line c.args.rate c.args.k (omega arith))

pub returns-in-12-to-23 : goal.returns-in-12-to-23
returns-in-12-to-23 c =
    let a = c.args in
    let e : 12 + (a.k - 12) ≡ a.k = omega arith in
    c.line_length-in-12-to-23.ensures ∙ sym (right_line a.rate (a.k - 12) (omega arith)) ∙ ap (λ (n : ℕ). get_or (reverb_lines a.rate) n 0) e

pub returns-in_default : goal.returns-in_default
returns-in_default c =
    let a = c.args in
    sym (get_or-eq_default (reverb_lines a.rate) 0 {n = a.k} (omega (arith, lines_length a.rate)))
