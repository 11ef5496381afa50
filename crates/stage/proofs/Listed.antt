-- Laws of a list by its places, and of a loop that fills it, place after place. Assumes nothing.
use Rattle.std.proofs.Common.{◌≡◌, refl, ap, sym, ◌∙◌, List, ◌∷◌, ◌++◌, ℕ, zero, suc, ◌+◌, ◌<◌, arith, length, get_or, set, get_or-set_same, get_or-set_other, ext_get_or, below_more}
use Rattle.stage.specs.Listed.{list_from, list_of}

module _ {A : Type 0} (f : ℕ → A) where
  pub from_length : (i n : ℕ) → length (list_from f i n) ≡ n
  unfolding list_from
  from_length i zero = refl
  from_length i (suc n) = ap suc (from_length (suc i) n)

  -- the first n places, and the m places after them
  pub from_parts : (i n m : ℕ) → list_from f i n ++ list_from f (i + n) m ≡ list_from f i (n + m)
  unfolding list_from
  from_parts i zero m = let e : i + 0 ≡ i = omega arith in let z : 0 + m ≡ m = omega arith in rw (e, z)
  from_parts i (suc n) m =
      let e : i + suc n ≡ suc i + n = omega arith in
      let z : suc n + m ≡ suc (n + m) = omega arith in
      rw (e, z) (ap (λ xs. f i ∷ xs) (from_parts (suc i) n m))

module _ {A : Type 0} (f : ℕ → A) (d : A) where
  from_at : (i n k : ℕ) → k < n → get_or (list_from f i n) k d ≡ f (i + k)
  unfolding list_from
  from_at i zero k h = absurd (omega arith)
  from_at i (suc n) zero h = let e : i ≡ i + 0 = omega arith in ap f e
  from_at i (suc n) (suc k) h = let e : suc i + k ≡ i + suc k = omega arith in from_at (suc i) n k (omega arith) ∙ ap f e

  pub listed_at : (n k : ℕ) → k < n → get_or (list_of f n) k d ≡ f k
  listed_at n k h = let e : 0 + k ≡ k = omega arith in from_at 0 n k h ∙ ap f e

  -- ---- a loop that fills a list xs: when all places stand, and one more
  module _ (xs : List A) (n : ℕ) where
    pub listed_all : length xs ≡ n → ((k : ℕ) → k < n → get_or xs k d ≡ f k) → xs ≡ list_of f n
    listed_all e g = ext_get_or d xs (list_of f n) (e ∙ sym (from_length f 0 n)) (λ k h. g k (omega arith) ∙ sym (listed_at n k (omega arith)))

    pub listed_more : (v : A) → n < length xs → ((k : ℕ) → k < n → get_or xs k d ≡ f k) → v ≡ f n → (k : ℕ) → k < n + 1 → get_or (set xs n v) k d ≡ f k
    listed_more v h g e = below_more (λ k. get_or (set xs n v) k d ≡ f k) n (λ k q. get_or-set_other xs n k v d (omega arith) ∙ g k q) (get_or-set_same xs n v d h ∙ e)
