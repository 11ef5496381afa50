-- `call::check` meets its contract: what is worked out for the table is what the table asks for. Assumes nothing.
use Rattle.std.proofs.Common.{◌≡◌, ap, ◌∙◌, arith, get_or}
use Rattle.line_layout.specs.Layout.{needed_of}
use Rattle.line_layout.proofs.LineStarts.{starts_at}
use Rattle.top_stages.specs.declared.Tops.{Tops}
use Rattle.top_stages.specs.Tops.{tops_of, tops_record}
use Rattle.refusals.specs.Refusals.{answer_of}
use Rattle.refusals.proofs.call.check.Goals as goal

pub returns : goal.returns
unfolding answer_of tops_record
returns c =
    let setup = c.args.setup in
    let layout = c.of-layout in
    let tops = c.of-tops in
    let needed : get_or layout.result.starts c.used.result 0 ≡ needed_of setup =
    ap (λ i. get_or layout.result.starts i 0) c.used.ensures ∙ starts_at setup layout.ensures.starts _ (omega arith) in
    let n : tops.result.n ≡ tops_of setup = ap (λ (t : Tops). t.n) tops.ensures in
    (rw (← needed, ← n) c.first_refusal-answer.ensures, layout.ensures.setup, layout.ensures.starts, tops.ensures)
