-- What a slice is once what follows its front was lent and is back; also where its front came back changed before that. Assumes nothing.
use Rattle.std.proofs.Common.{◌≡◌, ap, ◌∙◌, List, ◌++◌, append-nil, ℕ, ◌-◌, arith, length, set, take, drop, length-drop, drop_of_length-le, take_at, drop_at, drop-set-lt}
use lib.Seq.{take-set-lt}
use borrow.Author.Rules.{part_to_end}

-- what follows the first n of xs, as it is lent, and xs once that is back as zs
abbrev pub lent : {A : Type 0} → ℕ → List A → List A
lent n xs = take (length xs - n) (drop n xs)

abbrev pub home : {A : Type 0} → ℕ → List A → List A → List A
home n xs zs = take n xs ++ (zs ++ drop (length xs - n) (drop n xs))

module _ {A : Type 0} (n : ℕ) where
  pub lent_length : (xs : List A) → length (lent n xs) ≡ length xs - n
  lent_length xs = ap length (part_to_end xs n) ∙ length-drop n xs

  pub home_again : (xs zs : List A) → home n xs zs ≡ take n xs ++ zs
  home_again xs zs = rw (drop_of_length-le (drop n xs) {i = length xs - n} (omega (arith, length-drop n xs)), append-nil zs)

  -- the first n are ys, and the rest is still as it was in xs
  module _ (ys xs : List A) (e : length ys ≡ n) where
    pub rest_lent : lent n (ys ++ drop n xs) ≡ drop n xs
    rest_lent = part_to_end (ys ++ drop n xs) n ∙ drop_at ys (drop n xs) n e

    pub rest_home : (zs : List A) → home n (ys ++ drop n xs) zs ≡ ys ++ zs
    rest_home zs = home_again (ys ++ drop n xs) zs ∙ ap (λ l. l ++ zs) (take_at ys (drop n xs) n e)

-- a store to the first place is one to the front of one
module _ {A : Type 0} (xs : List A) (a : A) where
  pub first_lent : lent 1 (set xs 0 a) ≡ drop 1 xs
  first_lent = part_to_end (set xs 0 a) 1 ∙ drop-set-lt 1 xs 0 a (omega arith)

  pub first_home : (zs : List A) → home 1 (set xs 0 a) zs ≡ set (take 1 xs) 0 a ++ zs
  first_home zs = home_again 1 (set xs 0 a) zs ∙ ap (λ l. l ++ zs) (take-set-lt 1 xs 0 a (omega arith))
