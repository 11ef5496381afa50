-- A rule that holds at each entry of a list and its place, from one test that antt computes over the list. Assumes nothing.
use Rattle.std.proofs.Common.{sym, ◌∙◌, subst, Bool, true, ◌&&◌, List, [], ◌∷◌, ℕ, zero, suc, ◌+◌, ◌<◌, add-zero, zero-add, add-suc, suc-add, le_of_suc-le-suc, not-suc-le-zero, T, length, get_or}
use lib.Ieee.Fits.{and_l, and_r}

-- the test passes at every entry, the first of which is at place i
abbrev pub all : (ℕ → ℕ → Bool) → ℕ → List ℕ → Bool
all test i [] = true
all test i (x ∷ xs) = test i x && all test (suc i) xs

from : (test : ℕ → ℕ → Bool) (xs : List ℕ) (i : ℕ) → T (all test i xs) → (k : ℕ) → k < length xs → T (test (i + k) (get_or xs k 0))
from test [] i t k h = absurd (not-suc-le-zero h)
from test (x ∷ xs) i t zero h = subst (λ (m : ℕ). T (test m x)) (sym (add-zero i)) (and_l (test i x) (all test (suc i) xs) t)
from test (x ∷ xs) i t (suc k) h =
    subst (λ (m : ℕ). T (test m (get_or xs k 0))) (suc-add i k ∙ sym (add-suc i k))
    (from test xs (suc i) (and_r (test i x) (all test (suc i) xs) t) k (le_of_suc-le-suc h))

pub each : (test : ℕ → ℕ → Bool) (xs : List ℕ) → T (all test 0 xs) → (k : ℕ) → k < length xs → T (test k (get_or xs k 0))
each test xs t k h = subst (λ (m : ℕ). T (test m (get_or xs k 0))) (zero-add k) (from test xs 0 t k h)
