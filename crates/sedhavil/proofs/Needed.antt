-- `sedhavil_floats_needed` gives where the lines of all stages end, and no floats where it refuses; and it never refuses for want of room. Assumes nothing.
use Rattle.std.proofs.Common.{◌≡◌, refl, ⊎_elim, List, [], ◌∷◌, ℕ, arith, ltb, eq-eqb, ne_eqb, ltb-true}
use native.Mathlib.Decide.{ℕ_discrete}
use Rattle.theory_tables.specs.Rows.{Row, place_in}
use Rattle.theory_tables.proofs.Bools.{true_or_false}
use Rattle.theory_tables.proofs.Tested.{Gives, row_hit, row_pass, row_none}
use Rattle.memories.specs.Sizes.{places, all_positions, all_floats}
use Rattle.stage.specs.declared.setup.Setup.{Setup}
use Rattle.line_layout.specs.Layout.{needed_of}
use Rattle.answer.specs.Answer.{accepted, number_of}
use Rattle.refusals.specs.Refusals.{chain_rows, chain_answer}
use Rattle.stage_words.specs.Words.{setup_of}
use Rattle.sedhavil.specs.declared.Reply.{Reply}
use Rattle.sedhavil.specs.Call.{reply, reply_of, room_of, fault_rows, fault_of}
use Rattle.sedhavil.specs.Face.{words_fault, needed_room}

-- ---- of an answer with number 5, by a table: rows that would give another number are past
module _ {A : Type 0} (number : A → ℕ) {other a : A} (h : number a ≡ 5) where
  skip : {r : Row A} {rs : List (Row A)} → Gives (r ∷ rs) other a → (number (r.answer (place_in r.when)) ≡ 5 → ⊥) → Gives rs other a
  skip g never = ⊎_elim (λ q. absurd (never (rw (row_hit g q) h))) (row_pass g) (true_or_false _)

  none : Gives [] other a → (number other ≡ 5 → ⊥) → ⊥
  none g never = never (rw (row_none g) h)

-- by the five rows of a chain
pub room_enough : (setup : Setup) (n : ℕ) → number_of (chain_answer setup n n) ≡ 5 → ⊥
unfolding chain_answer
room_enough setup n h =
    let all : Gives (chain_rows setup n n) accepted (chain_answer setup n n) = record { same = refl } in
    let rate = skip number_of h all (λ z. omega (arith, z)) in
    let stages = skip number_of h rate (λ z. omega (arith, z)) in
    let shape = skip number_of h stages (λ z. omega (arith, z)) in
    let setting = skip number_of h shape (λ z. omega (arith, z)) in
    ⊎_elim
    (λ q. omega (arith, ltb-true n n q))
    (λ q. none number_of h (row_pass setting q) (λ z. omega (arith, z)))
    (true_or_false (ltb n n))

-- by the five rows of a call that cannot be read
fault_other : (words : List ℕ) → (words_fault words).number ≡ 5 → ⊥
unfolding fault_of
fault_other words h =
    let number : Reply → ℕ = λ r. r.number in
    let all : Gives (fault_rows words all_positions all_floats places) (reply 0 0) (words_fault words) = record { same = refl } in
    let stages = skip number h all (λ z. omega (arith, z)) in
    let positions = skip number h stages (λ z. omega (arith, z)) in
    let floats = skip number h positions (λ z. omega (arith, z)) in
    let progress = skip number h floats (λ z. omega (arith, z)) in
    none number h (skip number h progress (λ z. omega (arith, z))) (λ z. omega (arith, z))

-- ---- of a call
module _ (rate : ℕ) (words : List ℕ) where
  abbrev fault : Reply
  fault = words_fault words

  pub needed_is : (needed_room rate words).number ≡ 0 → (needed_room rate words).floats ≡ needed_of (setup_of rate words)
  unfolding needed_room room_of
  needed_is h = go (ℕ_discrete fault.number 0)
    where
      go : Dec (fault.number ≡ 0) → (needed_room rate words).floats ≡ needed_of (setup_of rate words)
      go (yes e) = rw (eq-eqb fault.number 0 e) (rw (eq-eqb _ 0 (rw (eq-eqb fault.number 0 e) at h)))
      go (no d) = absurd (d (rw (ne_eqb fault.number 0 d) at h))

  -- a refusal comes with no floats
  pub refused_empty : ((needed_room rate words).number ≡ 0 → ⊥) → (needed_room rate words).floats ≡ 0
  unfolding needed_room room_of
  refused_empty h = go (ℕ_discrete fault.number 0)
    where
      go : Dec (fault.number ≡ 0) → (needed_room rate words).floats ≡ 0
      go (yes e) = rw (eq-eqb fault.number 0 e) (rw (ne_eqb _ 0 (rw (eq-eqb fault.number 0 e) at h)))
      go (no d) = rw (ne_eqb fault.number 0 d)

  -- and never for want of room, since the store that is asked about has the floats needed
  pub never_short : (needed_room rate words).number ≡ 5 → ⊥
  unfolding needed_room room_of reply_of
  never_short h = go (ℕ_discrete fault.number 0)
    where
      go : Dec (fault.number ≡ 0) → ⊥
      go (yes e) = room_enough (setup_of rate words) (needed_of (setup_of rate words)) (rw (eq-eqb fault.number 0 e) at h)
      go (no d) = fault_other words (rw (ne_eqb fault.number 0 d) at h)
