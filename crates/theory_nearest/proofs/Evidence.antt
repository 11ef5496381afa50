-- The evidence that `sqrt_of` and `narrow_of` are IEEE 754's, in the words of specs/Nearest.antt and over the format: the root is the format's value nearest to the real root, the narrowing the value nearest to the same number, and there is no other such value. Assumes nothing.
use Rattle.std.proofs.Common.{◌≡◌, sym, inl, inr, Bool, false, ℕ, ◌*◌, ◌^◌, le_antisymm, le_trans, le_of_eq, add_comm, mul_comm, arith, ap, ◌∙◌, T, Float}
use Rattle.std.specs.Float.{Format}
use lib.Ieee.{fin, up, down, fits}
use lib.Ieee.Fits.{down_pos}
use lib.Ieee.Positive.{num, den, positive}
use Rattle.rounding.specs.Root.{sqrt_of}
use Rattle.rounding.specs.Narrow.{narrow_of}
use Rattle.theory_nearest.specs.Nearest.{Nearest, TheNearest, Nearer, Smaller, over, under, sum, product, last_digit}
use Rattle.theory_nearest.proofs.Powers.{split_order}
use Rattle.theory_nearest.proofs.Magnitude.{UnitSize, unit_size, one_value, lt→smaller}
use Rattle.theory_nearest.proofs.RoundKept.{round_nearest}
use Rattle.theory_nearest.proofs.RootKept.{root_nearest}

-- ---- the square root of a positive number
pub sqrt_nearest : (f : Format) (x : Float) → T (fits f x) → T (positive x) → Nearest f false 2 (num x) (den x) (sqrt_of f x)
sqrt_nearest f x t p = root_nearest f x t p

-- ---- any finite number in the format f, with its sign
pub narrow_nearest : (f : Format) (s : Bool) (m : ℕ) (e : _) → Nearest f s 1 (m * up e) (down e) (narrow_of f (fin s m e))
unfolding narrow_of
narrow_nearest f s m e = round_nearest f s (m * up e) (down e) (down_pos e)

-- ---- and there is one nearest value
module _ (f : Format) (s : Bool) (j n d : ℕ) where
  -- were y smaller than z and both nearest, t would be at their mean, and each of them the even one
  not_two : (y z : Float) → Nearer f j n d y z → Nearer f j n d z y → Smaller f y z → ⊥
  not_two y z a b l =
      let c : sum f z y ≡ sum f y z = add_comm (over f z * under y) (over f y * under z) in
      let g : n * (2 * product y z) ^ j ≡ sum f y z ^ j * d =
      le_antisymm (a.below l)
      (le_trans (le_of_eq (ap (λ (x : ℕ). x ^ j * d) (sym c))) (le_trans (b.above l) (le_of_eq (ap (λ (x : ℕ). n * (2 * x) ^ j) (mul_comm (under z) (under y)))))) in
      let k : n * (2 * product z y) ^ j ≡ sum f z y ^ j * d = ap (λ (x : ℕ). n * (2 * x) ^ j) (mul_comm (under z) (under y)) ∙ g ∙ ap (λ (x : ℕ). x ^ j * d) (sym c) in
      zero_one (last_digit f y) (a.tie (λ e. apart e) g).0 (b.tie (λ e. apart (sym e)) k).1
    where
      apart : over f y * under z ≡ over f z * under y → ⊥
      apart e = omega arith

      zero_one : (x : ℕ) → x ≡ 0 → x ≡ 1 → ⊥
      zero_one x e h = omega arith

  pub only_nearest : (y z : Float) → Nearest f s j n d y → Nearest f s j n d z → y ≡ z
  only_nearest y z a b = go (unit_size f s y a.held a.sign) (unit_size f s z b.held b.sign)
    where
      yz : Nearer f j n d y z
      yz = a.nearest z b.held b.sign

      zy : Nearer f j n d z y
      zy = b.nearest y a.held a.sign

      go : UnitSize f y → UnitSize f z → y ≡ z
      go u v =
          let Y = u.m * 2 ^ u.i in
          let Z = v.m * 2 ^ v.i in
          elim (split_order Y Z) [
            | inl l ↦ absurd (not_two y z yz zy (lt→smaller f y z Y Z u.mag v.mag l))
            | inr w ↦ elim w [
              | inl l ↦ absurd (not_two z y zy yz (lt→smaller f z y Z Y v.mag u.mag l))
              | inr e ↦ one_value f s y z Z a.held b.held a.sign b.sign (u.mag ∙ ap (λ (x : ℕ). x * under y) e) v.mag
            ]
          ]

  pub the_nearest : (y : Float) → Nearest f s j n d y → TheNearest f s j n d y
  the_nearest y h = record { nearest = h; only = λ z g. only_nearest z y g h }
