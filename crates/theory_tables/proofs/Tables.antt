-- The law of a table: the answer of its rows, tested one after the other, is the table's in plain logic. And a table in two parts. Assumes nothing.
use Rattle.std.proofs.Common.{◌≡◌, refl, ap, ◌∙◌, ◌⊎◌, inl, inr, ⊎_elim, List, [], ◌∷◌, ◌++◌, append-nil, ℕ, ◌<◌, arith}
use Rattle.theory_tables.specs.Rows.{Row, NoRow, Given, ByTheTable, place_in, first_row}
use Rattle.theory_tables.proofs.Bools.{true_or_false}
use Rattle.theory_tables.proofs.Decided.{applies_so, applies_is, never_so, never_is}

module _ {A : Type 0} where
  -- ---- no row of two parts applies
  pub no_row_both : (xs ys : List (Row A)) → NoRow (xs ++ ys) → NoRow xs × NoRow ys
  no_row_both [] ys h = (tt, h)
  no_row_both (r ∷ rs) ys h = let k = no_row_both rs ys h.1 in ((h.0, k.0), k.1)

  pub both_no_row : (xs ys : List (Row A)) → NoRow xs → NoRow ys → NoRow (xs ++ ys)
  both_no_row [] ys h k = k
  both_no_row (r ∷ rs) ys h k = (h.0, both_no_row rs ys h.1 k)

  -- ---- no row applies, or one is the first that does
  abbrev Some : List (Row A) → Type 0
  Some rs = (n : ℕ) × (p : ℕ) × Given rs n p

  none_or_some : (rs : List (Row A)) → NoRow rs ⊎ Some rs
  none_or_some [] = inl tt
  none_or_some (r ∷ rs) =
      ⊎_elim
      (λ q. inr (r.number, place_in r.when, inl (refl, applies_so r.when q)))
      (λ q. let never = never_so r.when q in ⊎_elim (λ h. inl (never, h)) (λ h. inr (h.0, h.1, inr (never, h.2))) (none_or_some rs))
      (true_or_false _)

  -- ---- the answer of two parts
  module _ (other : A) where
    pub first_passed : (xs ys : List (Row A)) → NoRow xs → first_row (xs ++ ys) other ≡ first_row ys other
    unfolding first_row
    first_passed [] ys h = refl
    first_passed (r ∷ rs) ys h = rw (never_is r.when h.0) (first_passed rs ys h.1)

    pub no_row_answer : (rs : List (Row A)) → NoRow rs → first_row rs other ≡ other
    unfolding first_row
    no_row_answer rs h = rw append-nil at (first_passed rs [] h)

    first_given : (xs ys : List (Row A)) (n p : ℕ) → Given xs n p → first_row (xs ++ ys) other ≡ first_row xs other
    unfolding first_row
    first_given [] ys n p h = absurd h
    first_given (r ∷ rs) ys n p (inl h) = rw (applies_is r.when p h.1).0
    first_given (r ∷ rs) ys n p (inr h) = rw (never_is r.when h.0) (first_given rs ys n p h.1)

  -- an answer with a number is a row's
  module _ (number_of : A → ℕ) (other : A) (accepts : number_of other ≡ 0) where
    some : (rs : List (Row A)) → 0 < number_of (first_row rs other) → Some rs
    some rs g = ⊎_elim (λ h. absurd (omega (arith, ap number_of (no_row_answer other rs h)))) (λ h. h) (none_or_some rs)

    pub first_refused : (xs ys : List (Row A)) → 0 < number_of (first_row xs other) → first_row (xs ++ ys) other ≡ first_row xs other
    first_refused xs ys g = let h = some xs g in first_given other xs ys h.0 h.1 h.2

  module _ (number_of place_of : A → ℕ) where
    -- ---- each row's number is above 0, and its answer, at the place with which it applies, has that number and that place
    abbrev pub Numbered : List (Row A) → Type 0
    Numbered [] = Unit {0}
    Numbered (r ∷ rs) = let answer = r.answer (place_in r.when) in ((0 < r.number) × (number_of answer ≡ r.number) × (place_of answer ≡ place_in r.when)) × Numbered rs

    pub numbered_both : (xs ys : List (Row A)) → Numbered xs → Numbered ys → Numbered (xs ++ ys)
    numbered_both [] ys f g = g
    numbered_both (r ∷ rs) ys f g = (f.0, numbered_both rs ys f.1 g)

    module _ (other : A) where
      exactly : (rs : List (Row A)) → Numbered rs → (n p : ℕ) → Given rs n p → (0 < n) × (number_of (first_row rs other) ≡ n) × (place_of (first_row rs other) ≡ p)
      unfolding first_row
      exactly [] f n p h = absurd h
      exactly (r ∷ rs) f n p (inl h) = let a = applies_is r.when p h.1 in rw a.0 (omega (arith, f.0.0, h.0), f.0.1 ∙ h.0, f.0.2 ∙ a.1)
      exactly (r ∷ rs) f n p (inr h) = rw (never_is r.when h.0) (exactly rs f.1 n p h.1)

      pub no_row : (rs : List (Row A)) → Numbered rs → number_of (first_row rs other) ≡ 0 → NoRow rs
      no_row rs f e = ⊎_elim (λ h. h) (λ h. let q = exactly rs f h.0 h.1 h.2 in absurd (omega (arith, q.0, q.1))) (none_or_some rs)

  -- ---- the law
  pub by_the_table : {number_of place_of : A → ℕ} {rs : List (Row A)} {other : A} → Numbered number_of place_of rs → number_of other ≡ 0 → ByTheTable number_of place_of rs other (first_row rs other)
  by_the_table {number_of} {place_of} {rs} {other} f accepts = record {
    accepted = no_row_answer other rs;
    clear = no_row number_of place_of other rs f;
    refused = λ g. let h = some number_of other accepts rs g in let q = exactly number_of place_of other rs f h.0 h.1 h.2 in rw (q.1, q.2) h.2;
    exactly = λ n p h. let q = exactly number_of place_of other rs f n p h in (q.1, q.2);
  }
