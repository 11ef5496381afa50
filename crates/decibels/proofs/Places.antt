-- From a whole number of decibels to a list's entry, for both functions: `suc b` entries stand below 0 dB and 25 from 0 dB on, so the entry of z decibels is at z + suc b.
-- The code holds z and the sum as 32 bits, and reads them back: `to_z` and `of_z`. Assumes nothing.
use Rattle.std.proofs.Common.{◌≡◌, refl, sym, ap, ◌∙◌, subst, Bool, true, false, cond, List, ℕ, suc, ◌+◌, ◌-◌, ◌≤◌, ◌<◌, arith, ltb, ℤ, pos, negsuc, ◌+ℤ◌, length, get_or, Option, Float, w32, SFits, to_z, of_z, to_z-of_z, ltb-true, ltb-false, lt-ltb, le-ltb}
use Rattle.std.specs.Float.{nan, Format, binary32, binary64}
use mathlib.Core.Bool.{false≢true}
use lib.Signed.{lt_z}
use Rattle.std.specs.List.{slice_get}
use Rattle.std.specs.Option.{MatchOption}
use Rattle.std.proofs.lemmas.Option.{slice_get-get_or, slice_get_past}
use Rattle.decibels.specs.Entry.{entry_at}
use lib.Ieee.{of_bits}
use Rattle.float.specs.Literal.{literal}
use Rattle.decibels.specs.Amplitude.{amplitudes, eq_amplitudes, amplitude_of, eq_amplitude_of}

-- what both definitions of specs/Amplitude.antt are: the list's entry, nan above 24 dB, and `low` where no entry is left below
abbrev pub entry_of : Format → List ℕ → ℕ → Float → ℤ → Float
entry_of f xs b low (pos k) = cond (ltb k 25) (of_bits f (get_or xs (k + suc b) 0)) nan
entry_of f xs b low (negsuc k) = cond (ltb k (suc b)) (of_bits f (get_or xs (b - k) 0)) low

pub amplitude_entry : (z : ℤ) → entry_of binary32 amplitudes 58 (literal binary32 0 1) z ≡ amplitude_of z
unfolding amplitude_of
amplitude_entry (pos k) = refl
amplitude_entry (negsuc k) = refl

pub eq_amplitude_entry : (z : ℤ) → entry_of binary64 eq_amplitudes 23 nan z ≡ eq_amplitude_of z
unfolding eq_amplitude_of
eq_amplitude_entry (pos k) = refl
eq_amplitude_entry (negsuc k) = refl

-- the lookup by the code gives that entry, where the list has `suc b` entries below 0 dB and 25 from 0 dB on; below the list it has none, and the code answers nan
at_place : (f : Format) (xs : List ℕ) (i : ℕ) (r : Float) → i < length xs → MatchOption (slice_get xs i) (r ≡ nan) (λ x. r ≡ of_bits f x) → r ≡ of_bits f (get_or xs i 0)
at_place f xs i r h m = subst (λ o. MatchOption o (r ≡ nan) (λ x. r ≡ of_bits f x)) (slice_get-get_or xs i 0 h) m

past : (f : Format) (xs : List ℕ) (i : ℕ) (r : Float) → length xs ≤ i → MatchOption (slice_get xs i) (r ≡ nan) (λ x. r ≡ of_bits f x) → r ≡ nan
past f xs i r h m = subst (λ o. MatchOption o (r ≡ nan) (λ x. r ≡ of_bits f x)) (slice_get_past xs i h) m

module _ (f : Format) (xs : List ℕ) (b : ℕ) (low r : Float) (n : length xs ≡ b + 26) where
  looked : (z : ℤ) → (lt_z z (negsuc b) ≡ true → low ≡ nan) → MatchOption (entry_at xs (z +ℤ pos (suc b))) (r ≡ nan) (λ x. r ≡ of_bits f x) → r ≡ entry_of f xs b low z
  looked (pos k) e m = of (ltb k 25) refl
    where
      of : (t : Bool) → ltb k 25 ≡ t → r ≡ cond t (of_bits f (get_or xs (k + suc b) 0)) nan
      of true h = let l = ltb-true k 25 h in at_place f xs (k + suc b) r (omega arith) m
      of false h = let l = ltb-false k 25 h in past f xs (k + suc b) r (omega arith) m
  looked (negsuc k) e m = of (ltb k (suc b)) refl
    where
      of : (t : Bool) → ltb k (suc b) ≡ t → r ≡ cond t (of_bits f (get_or xs (b - k) 0)) low
      of true h =
          let l = ltb-true k (suc b) h in
          let g : ltb (suc b) (suc k) ≡ false = le-ltb (suc b) (suc k) (omega arith) in
          let e : suc b - suc k ≡ b - k = omega arith in
          at_place f xs (b - k) r (omega arith) (subst (λ i. MatchOption (slice_get xs i) (r ≡ nan) (λ x. r ≡ of_bits f x)) e (subst (λ t. MatchOption (entry_at xs (cond t (negsuc (suc k - suc (suc b))) (pos (suc b - suc k)))) (r ≡ nan) (λ x. r ≡ of_bits f x)) g m))
      of false h =
          let l = ltb-false k (suc b) h in
          let g : ltb (suc b) (suc k) ≡ true = lt-ltb (suc b) (suc k) (omega arith) in
          subst (λ t. MatchOption (entry_at xs (cond t (negsuc (suc k - suc (suc b))) (pos (suc b - suc k)))) (r ≡ nan) (λ x. r ≡ of_bits f x)) g m ∙ sym (e (lt-ltb b k (omega arith)))

-- ---- as the code has it: it holds z as 32 bits, and reads them back
abbrev pub Read : ℤ → ℤ
Read z = to_z w32 (of_z w32 z)

module _ (f : Format) (xs : List ℕ) (b : ℕ) (low : Float) (z : ℤ) (s : SFits w32 z) where
  pub too_low : lt_z (Read z) (negsuc b) ≡ true → entry_of f xs b low z ≡ low
  too_low h = below z (ap (λ (y : ℤ). lt_z y (negsuc b)) (sym (to_z-of_z s)) ∙ h)
    where
      below : (z : ℤ) → lt_z z (negsuc b) ≡ true → entry_of f xs b low z ≡ low
      below (pos k) h = absurd (false≢true h)
      below (negsuc k) h = ap (λ (t : Bool). cond t (of_bits f (get_or xs (b - k) 0)) low) (le-ltb k (suc b) (ltb-true b k h))

  -- o is what the code finds, and r what it makes of it
  pub found : {o : Option ℕ} {r d : Float} → length xs ≡ b + 26 → d ≡ nan → (lt_z (Read z) (negsuc b) ≡ true → low ≡ nan) → o ≡ entry_at xs (Read z +ℤ pos (suc b)) → MatchOption o (r ≡ d) (λ x. r ≡ of_bits f x) → r ≡ entry_of f xs b low z
  found {o} {r} n q e p m =
      looked f xs b low r n z (λ h. e (ap (λ (y : ℤ). lt_z y (negsuc b)) (to_z-of_z s) ∙ h))
      (subst (λ o. MatchOption o (r ≡ nan) (λ x. r ≡ of_bits f x)) (p ∙ ap (λ (y : ℤ). entry_at xs (y +ℤ pos (suc b))) (to_z-of_z s)) (subst (λ d. MatchOption o (r ≡ d) (λ x. r ≡ of_bits f x)) q m))
