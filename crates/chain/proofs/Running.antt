-- What is known once a call is accepted, and what it leaves then or otherwise. Assumes nothing.
use Rattle.std.proofs.Common.{◌≡◌, ap, sym, false, List, [], ℕ, Float, length}
use Rattle.line.specs.Held.{Held}
use Rattle.theory_order.specs.Chain.{State}
use Rattle.stage.specs.declared.setup.Setup.{Setup}
use Rattle.answer.specs.Answer.{accepted, accepted_of}
use Rattle.theory_refusals.proofs.Clears.{clear_of_accepted}
use Rattle.chain.specs.Chain.{Ready, Orderly, ordered}
use Rattle.chain.specs.Run.{answer_on, leaves_by, leaves_of, order_to_end, rendered_of}
use Rattle.chain.specs.Demands.{Arrays, Taken}
use Rattle.chain.proofs.Accepts.{ClearOn, ready, orderly}

pub record CanRun (setup : Setup) (s : State Float Held) (order : List ℕ) : Type 0 where
  pub can : Ready setup s
  pub runs : Orderly setup s order

module _ (setup : Setup) (s : State Float Held) where
  -- ---- an order
  module _ (order : List ℕ) where
    pub clear : Taken setup s order → ClearOn setup s order
    clear t = clear_of_accepted setup (length s.held.store) s.samples s.held.positions s.progress order t

    pub can_run : Arrays s → Taken setup s order → CanRun setup s order
    can_run a t = let z = clear t in record { can = ready setup s order a z; runs = orderly setup s order z }

    -- a call whose answer is that it is accepted, of a chain by either of its names
    pub plan_runs : {planned : Setup} → Arrays s → accepted ≡ answer_on setup s order → planned ≡ setup → CanRun planned s order
    plan_runs a answer same = rw same (can_run a (ap accepted_of (sym answer)))

    -- these entries are run, or nothing is
    pub leaves_by_lem : (entries : List ℕ) → Taken setup s order → leaves_by setup s order entries ≡ ordered setup s entries
    leaves_by_lem entries t = rw t

    pub leaves_by_not : (entries : List ℕ) → accepted_of (answer_on setup s order) ≡ false → leaves_by setup s order entries ≡ s
    leaves_by_not entries t = rw t

    pub leaves_is : Taken setup s order → leaves_of setup s order ≡ ordered setup s order
    leaves_is t = leaves_by_lem order t

    pub leaves_not : accepted_of (answer_on setup s order) ≡ false → leaves_of setup s order ≡ s
    leaves_not t = leaves_by_not order t

  -- ---- and every stage to the last frame
  pub rendered_is : Taken setup s [] → rendered_of setup s ≡ ordered setup s (order_to_end setup s)
  rendered_is t = leaves_by_lem [] (order_to_end setup s) t

  pub rendered_not : accepted_of (answer_on setup s []) ≡ false → rendered_of setup s ≡ s
  rendered_not t = leaves_by_not [] (order_to_end setup s) t
