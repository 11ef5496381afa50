-- What the nearest value to a fraction n / d is where it can be said outright: the fraction itself, the even one of two neighbours, an infinity, a zero. Magnitudes are counted in units of the format's smallest value, so the fraction is n * 2 ^ low / d. Assumes nothing.
use Rattle.std.proofs.Common.{◌≡◌, refl, sym, ap, ◌∙◌, subst, ◌⊎◌, inl, inr, Bool, ℕ, suc, ◌+◌, ◌*◌, ◌^◌, ◌≤◌, ◌<◌, le_trans, le_of_eq, eq-zero-or-pos, mul-le-mul_right, mul-lt-mul_of_pos_right, add-mul, arith, T, pow_pos, pos, Float}
use Rattle.std.specs.Float.{Format}
use lib.Ieee.{prec, emax, low, fits, units}
use Rattle.theory_nearest.specs.Nearest.{Nearest, under, sum, product, last_digit, signed}
use Rattle.theory_nearest.specs.Ieee754.{zero_of, Neighbours, HalfWay}
use Rattle.theory_nearest.proofs.Powers.{first_power, twice_number, split_order}
use Rattle.theory_nearest.proofs.Magnitude.{Mag, UnitSize, unit_size, zero_mag, beq_refl, one_value, lt→smaller, smaller→lt}
use Rattle.theory_nearest.proofs.Beside.{Beside, beside, in_units}
use Rattle.theory_nearest.proofs.OtherSign.{zero_held, zero_even}
use Rattle.theory_nearest.proofs.Kept.{rounded}

-- ---- the first power
twice_mean : (Y Z d : ℕ) → (Y + Z) ^ 1 * d ≡ Y * d + Z * d
twice_mean Y Z d = ap (λ (x : ℕ). x * d) (first_power (Y + Z)) ∙ add-mul Y Z d

more_times : (a b d : ℕ) → 0 < d → a < b → a * d < b * d
more_times a b d D l = mul-lt-mul_of_pos_right l D

-- ---- on which side of the mean of y and z the fraction lies
pub record Sides (f : Format) (n d : ℕ) (y z : Float) (Y Z : ℕ) : Type 0 where
  pub below : Y < Z → n * 2 ^ low f * 2 ≤ Y * d + Z * d
  pub above : Z < Y → Y * d + Z * d ≤ n * 2 ^ low f * 2
  pub tie : (Y ≡ Z → ⊥) → n * 2 ^ low f * 2 ≡ Y * d + Z * d → (last_digit f y ≡ 0) × (last_digit f z ≡ 1)

sides : (f : Format) (n d : ℕ) (y z : Float) (Y Z : ℕ) → Beside f 1 n d y z Y Z → Sides f n d y z Y Z
sides f n d y z Y Z b =
    let N = twice_number n (2 ^ low f) in
    let M = twice_mean Y Z d in
    record {
      below = λ l. le_trans (le_of_eq (sym N)) (le_trans (b.below l) (le_of_eq M));
      above = λ l. le_trans (le_of_eq (sym M)) (le_trans (b.above l) (le_of_eq N));
      tie = λ ne e. b.tie ne (N ∙ e ∙ sym M);
    }

module _ (f : Format) (s : Bool) (n d : ℕ) (D : 0 < d) (w : Float) (h : Nearest f s 1 n d w) where
  abbrev N : ℕ
  N = n * 2 ^ low f

  pub against : (z : Float) (W Z : ℕ) → T (fits f z) → T (signed s z) → Mag f w W → Mag f z Z → Sides f n d w z W Z
  against z W Z t p hw hz = sides f n d w z W Z (beside f 1 n d w z W Z hw hz (h.nearest z t p))

  size_of : UnitSize f w
  size_of = unit_size f s w h.held h.sign

  abbrev W : ℕ
  W = size_of.m * 2 ^ size_of.i

  same : (z : Float) (Z : ℕ) → T (fits f z) → T (signed s z) → Mag f z Z → W ≡ Z → w ≡ z
  same z Z t p hz e = one_value f s w z Z h.held t h.sign p (size_of.mag ∙ ap (λ (x : ℕ). x * under w) e) hz

  -- ---- a value of the format is the nearest to itself
  pub itself : (z : Float) (Z : ℕ) → T (fits f z) → T (signed s z) → Mag f z Z → N ≡ Z * d → w ≡ z
  itself z Z t p hz e = same z Z t p hz (go (split_order W Z))
    where
      g : Sides f n d w z W Z
      g = against z W Z t p size_of.mag hz

      go : (W < Z) ⊎ ((Z < W) ⊎ (W ≡ Z)) → W ≡ Z
      go (inl l) = let a = g.below l in let b = more_times W Z d D l in absurd (omega arith)
      go (inr (inl l)) = let a = g.above l in let b = more_times Z W d D l in absurd (omega arith)
      go (inr (inr v)) = v

  -- ---- half way between two neighbours
  module _ (y z : Float) (k : Neighbours f s y z) (half : HalfWay f n d y z) where
    y_size : UnitSize f y
    y_size = unit_size f s y k.held.0 k.sign.0

    z_size : UnitSize f z
    z_size = unit_size f s z k.held.1 k.sign.1

    abbrev Y : ℕ
    Y = y_size.m * 2 ^ y_size.i

    abbrev Z : ℕ
    Z = z_size.m * 2 ^ z_size.i

    less : Y < Z
    less = smaller→lt f y z Y Z y_size.mag z_size.mag k.order

    mean : N * 2 ≡ Y * d + Z * d
    mean =
        let e : n * (2 * product y z) ^ 1 ≡ sum f y z ^ 1 * d = ap (λ (x : ℕ). n * x) (first_power (2 * product y z)) ∙ half ∙ ap (λ (x : ℕ). x * d) (sym (first_power (sum f y z))) in
        sym (twice_number n (2 ^ low f)) ∙ in_units f 1 n d y z Y Z y_size.mag z_size.mag e ∙ twice_mean Y Z d

    to_y : Sides f n d w y W Y
    to_y = against y W Y k.held.0 k.sign.0 size_of.mag y_size.mag

    to_z : Sides f n d w z W Z
    to_z = against z W Z k.held.1 k.sign.1 size_of.mag z_size.mag

    one_of : (W ≡ Y) ⊎ (W ≡ Z)
    one_of = go (split_order W Y) (split_order W Z)
      where
        go : (W < Y) ⊎ ((Y < W) ⊎ (W ≡ Y)) → (W < Z) ⊎ ((Z < W) ⊎ (W ≡ Z)) → (W ≡ Y) ⊎ (W ≡ Z)
        go (inl l) v = let a = to_y.below l in let b = more_times W Y d D l in let c = more_times Y Z d D less in let e = mean in absurd (omega arith)
        go (inr (inl l)) (inl m) = absurd (k.gap w h.held h.sign (lt→smaller f y w Y W y_size.mag size_of.mag l) (lt→smaller f w z W Z size_of.mag z_size.mag m))
        go (inr (inl l)) (inr (inl m)) = let a = to_z.above m in let b = more_times Y W d D l in let e = mean in absurd (omega arith)
        go (inr (inl l)) (inr (inr e)) = inr e
        go (inr (inr e)) v = inl e

    pub even_neighbour : (last_digit f w ≡ 0) × ((w ≡ y) ⊎ (w ≡ z))
    even_neighbour = go one_of
      where
        go : (W ≡ Y) ⊎ (W ≡ Z) → (last_digit f w ≡ 0) × ((w ≡ y) ⊎ (w ≡ z))
        go (inl e) = ((to_z.tie (λ v. apart v) (mean ∙ ap (λ (x : ℕ). x * d + Z * d) (sym e))).0, inl (same y Y k.held.0 k.sign.0 y_size.mag e))
          where
            apart : W ≡ Z → ⊥
            apart v = let l = less in omega arith
        go (inr e) = ((to_y.tie (λ v. apart v) (mean ∙ swap ∙ ap (λ (x : ℕ). x * d + Y * d) (sym e))).0, inr (same z Z k.held.1 k.sign.1 z_size.mag e))
          where
            apart : W ≡ Y → ⊥
            apart v = let l = less in omega arith

            swap : Y * d + Z * d ≡ Z * d + Y * d
            swap = omega arith

  -- ---- at most half of the smallest value
  pub to_zero : N * 2 ≤ d → w ≡ zero_of s
  to_zero l = same (zero_of s) 0 (zero_held f s) (beq_refl s) (zero_mag f s (pos 0)) (elim (eq-zero-or-pos W) [ inl e ↦ e | inr m ↦ absurd (no m) ])
    where
      g : Sides f n d w (zero_of s) W 0
      g = against (zero_of s) W 0 (zero_held f s) (beq_refl s) size_of.mag (zero_mag f s (pos 0))

      no : 0 < W → ⊥
      no m =
          let a = g.above m in
          let b : 1 * d ≤ W * d = mul-le-mul_right d m in
          let e : N * 2 ≡ W * d + 0 * d = omega arith in
          zero_even f s (g.tie (λ v. apart v) e).1
        where
          apart : W ≡ 0 → ⊥
          apart v = omega arith

  pub from_zero : w ≡ zero_of s → N * 2 ≤ d
  from_zero e =
      let v = rounded f s 1 0 (pow_pos (prec f)) (inl refl) in
      let z = units f s 1 0 in
      let m : Mag f w 0 = subst (λ (x : Float). Mag f x 0) (sym e) (zero_mag f s (pos 0)) in
      let a = (against z 0 1 v.held v.sign m (v.inner (pow_pos (low f + suc (emax f))))).below (pow_pos 0) in
      omega arith
