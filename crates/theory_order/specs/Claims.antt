-- What the theorems in proofs/ say about steps and orders, where one equation does not say it.
use Rattle.std.specs.Prelude.{◌≡◌, ◌≢◌, List, ◌++◌, ℕ, suc, ◌+◌, ◌*◌, ◌≤◌, ◌<◌, length, get_or, drop}
use Rattle.theory_order.specs.Stretch.{part}
use Rattle.theory_order.specs.Order.{count, run, Allowed}
use Rattle.theory_order.specs.Chain.{State, Chain, at, out, step, Ok, Done, Inv}

-- the state of a block with samples xs and progress p, where stages hold h
abbrev pub begin : {X H : Type 0} → List X → H → List ℕ → State X H
begin xs h p = record { samples = xs; held = h; progress = p }

module _ {X H : Type 0} (C : Chain X H) where
  -- z is s after a step of stage k: no frame but its next one has changed, what it holds is put back, and only its
  -- progress has grown, by one
  pub record Stepped (Fits : H → Type 0) (F k : ℕ) (s z : State X H) : Type 0 where
    pub before : (a m : ℕ) → a + m ≤ at s k * 2 → part a m z.samples ≡ part a m s.samples
    pub frame : part (at s k * 2) 2 z.samples ≡ (out C F k s).frame
    pub after : drop (suc (at s k) * 2) z.samples ≡ drop (suc (at s k) * 2) s.samples
    pub samples : length z.samples ≡ length s.samples
    pub held : z.held ≡ C.put k (out C F k s).held s.held
    pub moved : at z k ≡ suc (at s k)
    pub others : (j : ℕ) → j ≢ k → at z j ≡ at s j
    pub progress : length z.progress ≡ length s.progress
    pub inv : Inv C Fits F z

  -- z is s after an accepted order xs: each stage has run one frame more for each time that xs names it, and xs names
  -- only stages of the chain
  pub record Kept (Fits : H → Type 0) (F : ℕ) (xs : List ℕ) (s z : State X H) : Type 0 where
    pub inv : Inv C Fits F z
    pub moved : (i : ℕ) → at z i ≡ count i xs + at s i
    pub entries : (i : ℕ) → i < length xs → get_or xs i 0 < C.n
    pub samples : length z.samples ≡ length s.samples
    pub progress : length z.progress ≡ length s.progress

  -- the order xs is accepted, and brings every stage to the end of F frames
  pub record Finishes (F : ℕ) (s : State X H) (xs : List ℕ) : Type 0 where
    pub accepted : Allowed (step C F) (Ok C F) s xs
    pub done : Done C F (run (step C F) s xs)

  -- the order xs is accepted, and brings every stage from nothing to the end of F frames
  pub record Whole (F : ℕ) (s : State X H) (xs : List ℕ) : Type 0 where
    pub fresh : Done C 0 s
    pub finishes : Finishes F s xs

-- what a block leaves, r, is what its two parts leave, r₁ and r₂: their samples one after the other, and what stages
-- hold after the second
pub record Cut {X H : Type 0} (r r₁ r₂ : State X H) : Type 0 where
  pub samples : r.samples ≡ r₁.samples ++ r₂.samples
  pub held : r.held ≡ r₂.held
