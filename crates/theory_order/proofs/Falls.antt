-- Where no stage is ahead of the one just before it, none is ahead of any before it: what `Inv` asks, from what is tested.
use Rattle.std.proofs.Common.{◌≡◌, List, ℕ, zero, suc, ◌-◌, ◌≤◌, ◌<◌, arith, get_or}
use native.Mathlib.Decide.{dec_lt}

pub falls_from_next : (n : ℕ) (p : List ℕ) → ((k : ℕ) → 0 < k → k < n → get_or p k 0 ≤ get_or p (k - 1) 0) → (a b : ℕ) → a ≤ b → b < n → get_or p b 0 ≤ get_or p a 0
falls_from_next n p f a zero h l = let e : a ≡ 0 = omega arith in rw e (omega arith)
falls_from_next n p f a (suc b) h l = go (dec_lt a (suc b)) (falls_from_next n p f a b)
  where
    next : get_or p (suc b) 0 ≤ get_or p b 0
    next = let e : suc b - 1 ≡ b = omega arith in rw e at (f (suc b) (omega arith) l)

    go : Dec (a < suc b) → (a ≤ b → b < n → get_or p b 0 ≤ get_or p a 0) → get_or p (suc b) 0 ≤ get_or p a 0
    go (yes q) r = omega (arith, r (omega arith) (omega arith), next)
    go (no q) r = let e : a ≡ suc b = omega arith in rw e (omega arith)
