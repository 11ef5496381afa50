-- A block of bytes in and out again is itself. Assumes nothing.
use Rattle.std.proofs.Common.{◌≡◌, refl, sym, ap, ◌∙◌, subst, inl, inr, List, [], ◌∷◌, ◌++◌, append_assoc, ℕ, zero, suc, ◌+◌, ◌*◌, ◌/◌, ◌%◌, ◌≤◌, ◌<◌, eq-or-lt_of_le, le_of_suc-le-suc, le_of_lt, arith, add-one, length, get_or, take, take-suc}
use Rattle.std.specs.Float.{nan}
use lib.ListN.{get_or-append}
use lib.Seq.{get_or_at}
use Rattle.wav_bytes.specs.Bytes.{two_at}
use Rattle.wav_samples.specs.Sample.{sample_out}
use Rattle.std.specs.Int.{w16, cast_signed, cast_unsigned}
use Rattle.std.proofs.lemmas.Int.{of_z-to_z}
use Rattle.wav_samples.specs.Frames.{sample_at, samples_of, low_of, high_of, bytes_of}
use Rattle.wav_samples.proofs.Blocks.{samples_length, next_pair}
use Rattle.wav_samples.proofs.Signed as sg
use Rattle.theory_wav.proofs.Exact.{there_and_back}

two_small : (bytes : List ℕ) → ((i : ℕ) → get_or bytes i 0 < 256) → (i : ℕ) → two_at bytes i < 65536
unfolding two_at
two_small bytes small i = omega (arith, small i, small (i + 1))

module _ (bytes : List ℕ) (small : (i : ℕ) → get_or bytes i 0 < 256) where
  code_there : (i : ℕ) → cast_unsigned w16 (sample_out (sample_at bytes i)) ≡ two_at bytes (2 * i)
  unfolding sample_at
  code_there i =
      let c = two_at bytes (2 * i) in
      let l : c < 65536 = two_small bytes small (2 * i) in
      ap (cast_unsigned w16) (there_and_back (cast_signed w16 c) (sg.signed_small c l)) ∙ of_z-to_z w16 c l

  bytes_at : (i : ℕ) → (low_of (sample_at bytes i) ≡ get_or bytes (2 * i) 0) × (high_of (sample_at bytes i) ≡ get_or bytes (2 * i + 1) 0)
  unfolding low_of high_of two_at
  bytes_at i = let l = small (2 * i) in (ap (λ (n : ℕ). n % 256) (code_there i) ∙ omega arith, ap (λ (n : ℕ). n / 256) (code_there i) ∙ omega arith)

  sample_of : (m i : ℕ) → i < m → get_or (samples_of bytes m) i nan ≡ sample_at bytes i
  unfolding samples_of
  sample_of zero i h = absurd (omega arith)
  sample_of (suc m) i h =
      elim (eq-or-lt_of_le (le_of_suc-le-suc h)) [
        | inl e ↦ rw e (get_or_at (samples_of bytes m) (sample_at bytes m) [] nan m (samples_length bytes m))
        | inr l ↦ get_or-append (samples_of bytes m) (sample_at bytes m ∷ []) nan i (subst (λ (n : ℕ). i < n) (sym (samples_length bytes m)) l) ∙ sample_of m i l
      ]

  -- the first n of m samples
  pub bytes_back : (m n : ℕ) → n ≤ m → 2 * m ≤ length bytes → bytes_of (samples_of bytes m) n ≡ take (2 * n) bytes
  unfolding bytes_of
  bytes_back m zero k h = refl
  bytes_back m (suc n) k h =
      let x = sample_of m n k in
      let b = bytes_at n in
      rw (bytes_back m n (le_of_lt k) h, x, b.0, b.1)
      (sym
      (ap (λ (i : ℕ). take i bytes) (sym (next_pair n))
      ∙ take-suc bytes (suc (2 * n)) 0 (omega arith)
      ∙ ap (λ (l : List ℕ). l ++ (get_or bytes (suc (2 * n)) 0 ∷ [])) (take-suc bytes (2 * n) 0 (omega arith))
      ∙ append_assoc (take (2 * n) bytes) (get_or bytes (2 * n) 0 ∷ []) (get_or bytes (suc (2 * n)) 0 ∷ [])
      ∙ ap (λ (i : ℕ). take (2 * n) bytes ++ (get_or bytes (2 * n) 0 ∷ get_or bytes i 0 ∷ [])) (sym (add-one (2 * n)))))
