-- `start::start` meets its contract: an accepted chain has room for what is cleared. Assumes nothing.
use Rattle.std.proofs.Common.{◌≡◌, ℕ, ◌≤◌, Bool, true, List, length, Float, refl, sym, ap, ◌∙◌, arith}
use Rattle.line_layout.specs.Layout.{needed_of}
use Rattle.stage.specs.declared.setup.Setup.{Setup}
use Rattle.answer.specs.Answer.{Answer, accepted_of}
use Rattle.refusals.specs.Refusals.{chain_rows, chain_answer}
use Rattle.refusals.proofs.Parts.{part_clear}
use Rattle.fresh_start.specs.Start.{cleared_to}
use Rattle.fresh_start.proofs.Starting.{started, not_started}
use Rattle.fresh_start.proofs.start.start.Goals as goal
use Rattle.fresh_start.proofs.start.start.Goals.{then-is_ok, else-is_ok}

module _ (setup : Setup) (store : List Float) where
  -- the definition's answer is accepted, or not, as the code's is
  judged : {answer : Answer} {floats : ℕ} {given : Bool}
      → floats ≡ needed_of setup
      → answer ≡ chain_answer setup floats (length store)
      → accepted_of answer ≡ given
      → accepted_of (chain_answer setup (needed_of setup) (length store)) ≡ given
  judged n a g = ap accepted_of (sym (a ∙ ap (λ k. chain_answer setup k (length store)) n)) ∙ g

  -- no row of the chain applies, the fifth among them
  room : accepted_of (chain_answer setup (needed_of setup) (length store)) ≡ true → needed_of setup ≤ length store
  unfolding chain_answer
  room accepted =
      let none = part_clear (chain_rows setup (needed_of setup) (length store)) refl (omega arith) accepted in
      omega (arith, none.1.1.1.1.0)

pub clear-requires : goal.clear-requires
clear-requires c =
    let accepted = judged c.args.setup c.args.store.now c.needed-floats.ensures c.check_chain-answer.ensures (sym c.is_ok.ensures.value ∙ c.if-is_ok.true) in
    omega (arith, room c.args.setup c.args.store.now accepted, c.needed-floats.ensures)

pub returns-clause-leaves : goal.returns-clause-leaves
returns-clause-leaves c =
    let a = c.args in
    let floats = c.needed-floats.ensures in
    let answer = c.check_chain-answer.ensures in
    elim c.if-is_ok.branch [
      | then-is_ok w ↦ w.store-is ∙ w.clear.ensures ∙ ap (λ n. cleared_to n a.store.now) floats ∙ sym (started a.setup a.store.now (judged a.setup a.store.now floats answer (sym c.is_ok.ensures.value ∙ w.if-is_ok.true)))
      | else-is_ok w ↦ w.store-is ∙ sym (not_started a.setup a.store.now (judged a.setup a.store.now floats answer (sym c.is_ok.ensures.value ∙ w.if-is_ok.false)))
    ]
