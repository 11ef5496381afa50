-- Past the end every byte is 0, so a place may be held to any at or past the end. Assumes nothing.
use Rattle.std.proofs.Common.{◌≡◌, ℕ, ◌≤◌, List, length, get_or, ap, ◌∙◌, sym, arith, inl, inr, min}
use Rattle.std.proofs.lemmas.Bool.{cases_lt}
use lib.ListN.{get_or-eq_default}

pub held_past : (bytes : List ℕ) (i m : ℕ) → length bytes ≤ m → get_or bytes (min i m) 0 ≡ get_or bytes i 0
held_past bytes i m h =
    elim (cases_lt i m) [
      | inl l ↦ ap (λ (n : ℕ). get_or bytes n 0) (omega arith)
      | inr l ↦ get_or-eq_default bytes 0 (omega arith) ∙ sym (get_or-eq_default bytes 0 (omega arith))
    ]
