-- The library's `closest` gives the nearest whole number, a tie going to the even one. Assumes nothing.
use Rattle.std.proofs.Common.{◌≡◌, refl, sym, subst, ℕ, zero, suc, ◌+◌, ◌*◌, ◌/◌, ◌%◌, ◌<◌, mod-lt, div-add-mod', add-mul, one-mul, add-zero, arith, add-one}
use Prim.Native.Nat.{compare, Ordering}
use lib.Ieee.{nearest}
use lib.Ieee.Nearest.{closest}
use Rattle.rounding.proofs.Compare.{Compared, compared}
use Rattle.theory_nearest.specs.Whole.{NearestWhole}

-- with a = p + t and p = w * b: the next number times b is p + b
module _ (a b w p t : ℕ) (f : p ≡ w * b) (e : p + t ≡ a) (l : t < b) where
  more : suc w * b ≡ p + b
  more = omega (arith, add-mul 1 w b, one-mul b)

  tie : t * 2 ≡ b → (o : ℕ) → w % 2 ≡ o → o < 2 → NearestWhole a b (w + o)
  tie i zero g k = subst (NearestWhole a b) (sym (add-zero w)) (record { below = omega arith; above = omega arith; even_below = λ h. g; even_above = λ h. g })
  tie i (suc zero) g k = subst (NearestWhole a b) (sym (add-one w)) (let m = more in record { below = omega arith; above = omega arith; even_below = λ h. omega arith; even_above = λ h. omega arith })
  tie i (suc (suc o)) g k = absurd (omega arith)

  at : (o : Ordering) → Compared o (t * 2) b → NearestWhole a b (nearest w o)
  at Ordering.lt h = record { below = omega arith; above = omega arith; even_below = λ g. absurd (omega arith); even_above = λ g. absurd (omega arith) }
  at Ordering.eq h = tie h (w % 2) refl (omega arith)
  at Ordering.gt h = let m = more in record { below = omega arith; above = omega arith; even_below = λ g. absurd (omega arith); even_above = λ g. absurd (omega arith) }

pub closest_whole : (a b : ℕ) → 0 < b → NearestWhole a b (closest a b)
closest_whole a b B = at a b (a / b) (a / b * b) (a % b) refl (div-add-mod' a b) (mod-lt a B) (compare (a % b * 2) b) (compared (a % b * 2) b)
