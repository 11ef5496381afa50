-- What a slice is once its front, or what follows it, was lent and is back, where the front is as long as is asked, or shorter where the slice is. Assumes nothing.
use Rattle.std.proofs.Common.{◌≡◌, refl, ap, ◌∙◌, List, [], ◌∷◌, ◌++◌, ℕ, zero, suc, ◌-◌, ◌<◌, min, arith, length, set, take, drop, length-take, length-drop, drop_of_length-le, take_all, take_at, drop_at}
use native.Mathlib.Decide.{dec_lt}
use lib.Seq.{take-length, drop-length}
use Rattle.line.proofs.Lent.{lent, home, home_again, rest_lent, rest_home}

-- to take or drop as many as there are is to take or drop all
module _ {A : Type 0} (m : ℕ) (xs : List A) where
  take_min : take (min m (length xs)) xs ≡ take m xs
  take_min = go (dec_lt m (length xs))
    where
      go : Dec (m < length xs) → take (min m (length xs)) xs ≡ take m xs
      go (yes h) = let e : min m (length xs) ≡ m = omega arith in rw e
      go (no h) = let e : min m (length xs) ≡ length xs = omega arith in rw (e, take-length xs, take_all m xs (omega arith))

  drop_min : drop (min m (length xs)) xs ≡ drop m xs
  drop_min = go (dec_lt m (length xs))
    where
      go : Dec (m < length xs) → drop (min m (length xs)) xs ≡ drop m xs
      go (yes h) = let e : min m (length xs) ≡ m = omega arith in rw e
      go (no h) = let e : min m (length xs) ≡ length xs = omega arith in rw (e, drop-length xs, drop_of_length-le xs {i = m} (omega arith))

-- of xs the first n, where m were asked
module _ {A : Type 0} (m n : ℕ) (xs : List A) (e : n ≡ min m (length xs)) where
  pub front_is : take n xs ≡ take m xs
  front_is = ap (λ k. take k xs) e ∙ take_min m xs

  rest_is : drop n xs ≡ drop m xs
  rest_is = ap (λ k. drop k xs) e ∙ drop_min m xs

  front_length : length (take n xs) ≡ n
  front_length = omega (arith, length-take n xs)

  -- the rest was lent, and is back as zs
  pub lent_is : lent n xs ≡ drop m xs
  lent_is = take_all (length xs - n) (drop n xs) (omega (arith, length-drop n xs)) ∙ rest_is

  module _ (zs : List A) where
    pub home_is : home n xs zs ≡ take m xs ++ zs
    home_is = rw (home_again n xs zs, front_is)

    -- then the front is as it was, and the rest is zs
    pub home_front : take n (home n xs zs) ≡ take m xs
    home_front = rw (home_again n xs zs, take_at (take n xs) zs n front_length, front_is)

    pub home_rest : drop n (home n xs zs) ≡ zs
    home_rest = rw (home_again n xs zs, drop_at (take n xs) zs n front_length)

  -- the front is back as ys; then the rest was lent, and is back as zs
  module _ (ys : List A) (q : length ys ≡ length (take n xs)) where
    pub then_lent : lent n (ys ++ drop n xs) ≡ drop m xs
    then_lent = rest_lent n ys xs (q ∙ front_length) ∙ rest_is

    pub then_home : (zs : List A) → home n (ys ++ drop n xs) zs ≡ ys ++ zs
    then_home zs = rest_home n ys xs (q ∙ front_length) zs

-- a store to the first place is one to the front, which is empty only where the rest is
module _ {A : Type 0} where
  pub set_front : (m : ℕ) (xs ys : List A) (a : A) → 0 < m → length ys ≡ length (drop m xs) → set (take m xs ++ ys) 0 a ≡ set (take m xs) 0 a ++ ys
  set_front zero xs ys a h q = absurd (omega arith)
  set_front (suc m) [] [] a h q = refl
  set_front (suc m) [] (y ∷ ys) a h q = absurd (omega arith)
  set_front (suc m) (x ∷ xs) ys a h q = refl
