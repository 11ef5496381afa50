-- Laws of stretches: their lengths, and that two which lie apart have nothing to do with one another.
use Rattle.std.proofs.Common.{◌≡◌, refl, ap, ◌∙◌, List, [], ◌∷◌, ◌++◌, ℕ, zero, suc, ◌+◌, ◌≤◌, arith, length, take, drop, length-append, length-take, length-drop, length-take-le, take_at, drop_at}
use Rattle.theory_order.specs.Stretch.{part, splice}

module _ {A : Type 0} where
  pub length_part : (a n : ℕ) (xs : List A) → a + n ≤ length xs → length (part a n xs) ≡ n
  length_part a n xs h = simp (length-take, length-drop) (omega arith)

  pub length_splice : (a : ℕ) (ys xs : List A) → a + length ys ≤ length xs → length (splice a ys xs) ≡ length xs
  length_splice a ys xs h = simp (length-append, length-take, length-drop) (omega arith)

  -- ---- what lies apart from a splice is not changed

  pub part_before : (a n b : ℕ) (ys xs : List A) → a + n ≤ b → b ≤ length xs → part a n (splice b ys xs) ≡ part a n xs
  part_before zero zero b ys xs h k = refl
  part_before zero (suc n) zero ys xs h k = absurd (omega arith)
  part_before zero (suc n) (suc b) ys [] h k = absurd (omega arith)
  part_before zero (suc n) (suc b) ys (x ∷ xs) h k = ap {B = List A} (λ r. x ∷ r) (part_before zero n b ys xs (omega arith) (omega arith))
  part_before (suc a) n zero ys xs h k = absurd (omega arith)
  part_before (suc a) n (suc b) ys [] h k = absurd (omega arith)
  part_before (suc a) n (suc b) ys (x ∷ xs) h k = part_before a n b ys xs (omega arith) (omega arith)

  pub drop_after : (b : ℕ) (ys : List A) (a : ℕ) (xs : List A) → b + length ys ≤ a → b + length ys ≤ length xs → drop a (splice b ys xs) ≡ drop a xs
  drop_after zero [] a xs h k = refl
  drop_after zero (y ∷ ys) zero xs h k = absurd (omega arith)
  drop_after zero (y ∷ ys) (suc a) [] h k = absurd (omega arith)
  drop_after zero (y ∷ ys) (suc a) (x ∷ xs) h k = drop_after zero ys a xs (omega arith) (omega arith)
  drop_after (suc b) ys zero xs h k = absurd (omega arith)
  drop_after (suc b) ys (suc a) [] h k = absurd (omega arith)
  drop_after (suc b) ys (suc a) (x ∷ xs) h k = drop_after b ys a xs (omega arith) (omega arith)

  pub part_after : (a n b : ℕ) (ys xs : List A) → b + length ys ≤ a → b + length ys ≤ length xs → part a n (splice b ys xs) ≡ part a n xs
  part_after a n b ys xs h k = ap (take n) (drop_after b ys a xs h k)

  -- and what was put in is there
  pub part_same : (a n : ℕ) (ys xs : List A) → length ys ≡ n → a ≤ length xs → part a n (splice a ys xs) ≡ ys
  part_same a n ys xs e h =
      ap (take n) (drop_at (take a xs) (ys ++ drop (length ys) (drop a xs)) a (length-take-le a xs h))
      ∙ take_at ys (drop (length ys) (drop a xs)) n e

  -- two that lie apart can be put in in either order
  pub splice_comm : (a : ℕ) (ys : List A) (b : ℕ) (zs xs : List A) → a + length ys ≤ b → b + length zs ≤ length xs
      → splice a ys (splice b zs xs) ≡ splice b zs (splice a ys xs)
  splice_comm zero [] b zs xs h k = refl
  splice_comm zero (y ∷ ys) zero zs xs h k = absurd (omega arith)
  splice_comm zero (y ∷ ys) (suc b) zs [] h k = absurd (omega arith)
  splice_comm zero (y ∷ ys) (suc b) zs (x ∷ xs) h k = ap {B = List A} (λ r. y ∷ r) (splice_comm zero ys b zs xs (omega arith) (omega arith))
  splice_comm (suc a) ys zero zs xs h k = absurd (omega arith)
  splice_comm (suc a) ys (suc b) zs [] h k = absurd (omega arith)
  splice_comm (suc a) ys (suc b) zs (x ∷ xs) h k = ap {B = List A} (λ r. x ∷ r) (splice_comm a ys b zs xs (omega arith) (omega arith))
