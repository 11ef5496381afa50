-- A sample in is s / 32768 exactly, and comes out again as it went in. Assumes nothing.
use Rattle.std.proofs.Common.{◌≡◌, sym, ap, ◌∙◌, Bool, true, false, ℕ, suc, ◌*◌, ◌/◌, ◌^◌, ◌≤◌, min, lt_of_le_of_lt, mul-one, mul_assoc, mul-le-mul_right, div-one, arith, lit<, pos, negsuc, Float}
use Rattle.std.specs.Float.{binary32}
use Prim.Native.Nat.{compare}
use native.Mathlib.Nat.{min-eq_left, mod-one}
use lib.Ieee.{nearest, round}
use lib.Ieee.Exact.{HasValue, round_exact}
use lib.Ieee.Nearest.{closest, closest_same}
use Rattle.wav_samples.specs.Sample.{sample_in, steps_of, held_of, sample_out}
use Rattle.wav_samples.proofs.Steps.{value_steps, value_sign}
use Rattle.theory_wav.specs.Evidence.{InExact, ThereAndBack}

exact : (s : Bool) (n : ℕ) → n ≤ 32768 → HasValue (round binary32 s n 32768) s n 32768
exact s n h = round_exact binary32 s n 32768 n 134 (lit< tt) (omega arith) (lt_of_le_of_lt (mul-le-mul_right (2 ^ 134) h) (lit< tt)) (sym (mul_assoc n (2 ^ 134) 32768))

pub in_exact : InExact
unfolding sample_in
in_exact (pos n) h = exact false n (omega arith)
in_exact (negsuc n) h = exact true (suc n) (omega arith)

-- ---- and out again
whole_steps : (n : ℕ) → n ≤ 32768 → min (closest (n * 32768) 32768) 32768 ≡ n
whole_steps n h = ap (λ (k : ℕ). min k 32768) (closest_same (n * 32768) 32768 n 1 (lit< tt) (lit< tt) (mul-one (n * 32768)) ∙ whole n) ∙ min-eq_left h
  where
    whole : (n : ℕ) → closest n 1 ≡ n
    whole n = ap (λ (k : ℕ). nearest (n / 1) (compare (k * 2) 1)) (mod-one n) ∙ div-one n

comes_back : (v : Float) (s : Bool) (n : ℕ) → n ≤ 32768 → HasValue v s n 32768 → sample_out v ≡ held_of s n
unfolding sample_out
comes_back v s n h x =
    ap (λ (b : Bool). held_of b (steps_of v)) (value_sign s n 32768 (lit< tt) v x)
    ∙ ap (held_of s) (value_steps s n 32768 (lit< tt) v x ∙ whole_steps n h)

pub there_and_back : ThereAndBack
unfolding held_of
there_and_back (pos n) h = comes_back (sample_in (pos n)) false n (omega arith) (in_exact (pos n) h) ∙ ap pos (omega arith)
there_and_back (negsuc n) h = comes_back (sample_in (negsuc n)) true (suc n) (omega arith) (in_exact (negsuc n) h)
