-- One sample after the other, into samples or into bytes. Assumes nothing.
use Rattle.std.proofs.Common.{◌≡◌, refl, sym, ap, ◌∙◌, List, [], ◌∷◌, ◌++◌, append_assoc, ℕ, zero, suc, ◌+◌, ◌*◌, ◌<◌, mul-suc, add-one, arith, Float, length, set, drop, get_or, length-append, drop-cons}
use Rattle.std.specs.Float.{nan}
use lib.Seq.{set_at}
use Rattle.wav_samples.specs.Frames.{sample_at, samples_of, low_of, high_of, bytes_of}

-- the place after sample n's two bytes
pub next_pair : (n : ℕ) → suc (suc (2 * n)) ≡ 2 * suc n
next_pair n = omega arith

module _ (bytes : List ℕ) where
  pub samples_length : (n : ℕ) → length (samples_of bytes n) ≡ n
  unfolding samples_of
  samples_length zero = refl
  samples_length (suc n) = length-append (samples_of bytes n) (sample_at bytes n ∷ []) ∙ ap (λ (k : ℕ). k + 1) (samples_length n) ∙ add-one n

  pub samples_none : (xs : List Float) → xs ≡ samples_of bytes 0 ++ drop 0 xs
  unfolding samples_of
  samples_none xs = refl

  pub samples_more : (xs : List Float) (i : ℕ) → i < length xs → set (samples_of bytes i ++ drop i xs) i (sample_at bytes i) ≡ samples_of bytes (i + 1) ++ drop (i + 1) xs
  unfolding samples_of
  samples_more xs i h =
      ap (λ (l : List Float). set (samples_of bytes i ++ l) i (sample_at bytes i)) (drop-cons xs i nan h)
      ∙ set_at (samples_of bytes i) (get_or xs i nan) (drop (suc i) xs) (sample_at bytes i) i (samples_length i)
      ∙ sym (append_assoc (samples_of bytes i) (sample_at bytes i ∷ []) (drop (suc i) xs))
      ∙ ap (λ (n : ℕ). samples_of bytes n ++ drop n xs) (sym (add-one i))

module _ (samples : List Float) where
  bytes_length : (n : ℕ) → length (bytes_of samples n) ≡ 2 * n
  unfolding bytes_of
  bytes_length zero = refl
  bytes_length (suc n) = length-append (bytes_of samples n) (low_of (get_or samples n nan) ∷ high_of (get_or samples n nan) ∷ []) ∙ ap (λ (k : ℕ). k + 2) (bytes_length n) ∙ sym (mul-suc 2 n)

  pub bytes_none : (ys : List ℕ) → ys ≡ bytes_of samples 0 ++ drop (2 * 0) ys
  unfolding bytes_of
  bytes_none ys = refl

  pub bytes_more : (ys : List ℕ) (i : ℕ) → 2 * i + 1 < length ys
      → set (set (bytes_of samples i ++ drop (2 * i) ys) (2 * i) (low_of (get_or samples i nan))) (2 * i + 1) (high_of (get_or samples i nan)) ≡ bytes_of samples (i + 1) ++ drop (2 * (i + 1)) ys
  unfolding bytes_of
  bytes_more ys i h =
      let x = get_or samples i nan in
      let l = bytes_of samples i in
      ap (λ (r : List ℕ). set (set (l ++ r) (2 * i) (low_of x)) (2 * i + 1) (high_of x)) (drop-cons ys (2 * i) 0 (omega arith) ∙ ap (λ (r : List ℕ). get_or ys (2 * i) 0 ∷ r) (drop-cons ys (suc (2 * i)) 0 (omega arith)))
      ∙ ap (λ (r : List ℕ). set r (2 * i + 1) (high_of x)) (set_at l (get_or ys (2 * i) 0) (get_or ys (suc (2 * i)) 0 ∷ drop (suc (suc (2 * i))) ys) (low_of x) (2 * i) (bytes_length i))
      ∙ ap (λ (r : List ℕ). set r (2 * i + 1) (high_of x)) (sym (append_assoc l (low_of x ∷ []) (get_or ys (suc (2 * i)) 0 ∷ drop (suc (suc (2 * i))) ys)))
      ∙ set_at (l ++ (low_of x ∷ [])) (get_or ys (suc (2 * i)) 0) (drop (suc (suc (2 * i))) ys) (high_of x) (2 * i + 1) (length-append l (low_of x ∷ []) ∙ ap (λ (k : ℕ). k + 1) (bytes_length i))
      ∙ append_assoc l (low_of x ∷ []) (high_of x ∷ drop (suc (suc (2 * i))) ys)
      ∙ sym (append_assoc l (low_of x ∷ high_of x ∷ []) (drop (suc (suc (2 * i))) ys))
      ∙ ap (λ (n : ℕ). bytes_of samples (suc i) ++ drop n ys) (next_pair i)
      ∙ ap (λ (n : ℕ). bytes_of samples n ++ drop (2 * n) ys) (sym (add-one i))
