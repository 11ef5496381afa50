-- A reverb's lines by their index: how long each is, what those from an index on have together, and how much all can be. Assumes nothing.
use Rattle.std.proofs.Common.{◌≡◌, refl, sym, ap, ◌∙◌, List, [], ◌∷◌, map, ℕ, zero, suc, ◌+◌, ◌-◌, ◌*◌, ◌≤◌, ◌<◌, mul-le-mul_right, add-one, arith, length, get_or, drop, drop_of_length-le, drop-cons, get_or-append-add}
use lib.ListN.{get_or-append}
use Rattle.std.specs.List.{All, sum, range_with_len}
use Rattle.std.proofs.lemmas.List.Elements.{All-from_get_or}
use Rattle.std.proofs.lemmas.List.Sums.{sum_by-le, get_or-le-sum_by}
use Rattle.reverb_tuning.specs.Tuning.{line_count, tunings, reverb_tunings, length_of, reverb_lines, reverb_floats}

-- ---- numbers of a list

map_at : (f : ℕ → ℕ) (l : List ℕ) (k : ℕ) → k < length l → get_or (map f l) k 0 ≡ f (get_or l k 0)
map_at f [] k h = absurd (omega arith)
map_at f (x ∷ xs) zero h = refl
map_at f (x ∷ xs) (suc k) h = map_at f xs k (omega arith)

-- those from place k on, read one by one
pub rest_read : (l : List ℕ) (k n : ℕ) → n ≡ length l - k → map (λ j. get_or l j 0) (range_with_len k n) ≡ drop k l
rest_read l k zero h = sym (drop_of_length-le l {i = k} (omega arith))
rest_read l k (suc n) h = rw (rest_read l (k + 1) n (omega arith), add-one) (sym (drop-cons l k 0 (omega arith)))

-- ---- the lines of both sides

line_within : (n rate : ℕ) → n ≤ 44100 → length_of n rate ≤ rate
unfolding length_of
line_within n rate h = omega (arith, mul-le-mul_right rate h)

module _ (rate : ℕ) where
  pub lines_length : length (reverb_lines rate) ≡ line_count
  unfolding reverb_lines
  lines_length = refl

  line_at : (k : ℕ) → k < line_count → get_or (reverb_lines rate) k 0 ≡ length_of (get_or reverb_tunings k 0) rate
  unfolding reverb_lines
  line_at k h = map_at (λ n. length_of n rate) reverb_tunings k h

  pub left_line : (k : ℕ) → k < 12 → get_or (reverb_lines rate) k 0 ≡ length_of (get_or tunings k 0) rate
  left_line k h = line_at k (omega arith) ∙ ap (λ n. length_of n rate) (get_or-append tunings (map (λ n. n + 23) tunings) 0 k h)

  pub right_line : (k : ℕ) → k < 12 → get_or (reverb_lines rate) (12 + k) 0 ≡ length_of (get_or tunings k 0 + 23) rate
  right_line k h = line_at (12 + k) (omega arith) ∙ ap (λ n. length_of n rate) (get_or-append-add tunings (map (λ n. n + 23) tunings) k 0 ∙ map_at (λ n. n + 23) tunings k h)

  pub floats_are : reverb_floats rate ≡ sum (reverb_lines rate)
  unfolding reverb_floats
  floats_are = refl

  -- no line has more floats than there are frames in a second
  pub reverb_within : reverb_floats rate ≤ line_count * rate
  reverb_within = rw (floats_are, ← lines_length) (sum_by-le (λ n. n) rate (reverb_lines rate) each)
    where
      each : All (λ n. n ≤ rate) (reverb_lines rate)
      each = All-from_get_or (λ n. n ≤ rate) (reverb_lines rate) 0 (λ k h. let few : k < line_count = omega (arith, lines_length) in rw (line_at k few) (line_within _ rate (omega (arith, get_or-le-sum_by (λ n. n) reverb_tunings k 0 few))))
