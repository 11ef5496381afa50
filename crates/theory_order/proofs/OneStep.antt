-- One step of a stage that may take it: what changes, what does not, and that what holds between steps still holds.
use Rattle.std.proofs.Common.{◌≡◌, refl, ℕ, suc, ◌+◌, ◌-◌, ◌*◌, ◌≤◌, ◌<◌, arith, length, drop, length-set, get_or-set_same, get_or-set_other}
use native.Mathlib.Decide.{ℕ_discrete}
use Rattle.theory_order.specs.Order.{hit}
use Rattle.theory_order.specs.Stretch.{part}
use Rattle.theory_order.specs.Chain.{State, Chain, at, out, put, step, Ok, Made, Local, Inv}
use Rattle.theory_order.specs.Claims.{Stepped}
use Rattle.theory_order.proofs.Orders.{hit_same, hit_other}
use Rattle.theory_order.proofs.Stretches.{length_part, length_splice, part_before, part_same, drop_after}

module _ {X H : Type 0} (C : Chain X H) (Fits : H → Type 0) (Sized : ℕ → H → Type 0) (L : Local C Fits Sized) (F : ℕ) where
  pub made : (s : State X H) (k : ℕ) → Inv C Fits F s → Ok C F s k → Made C Fits Sized k (out C F k s)
  unfolding out
  made s k v c =
      L.makes k _ _ _ c.inside (length_part (at s k * 2) 2 s.samples (omega arith)) (L.own_sized k s.held c.inside v.held)

  -- ---- progress

  pub at_step : (s : State X H) (k : ℕ) → Inv C Fits F s → Ok C F s k → (i : ℕ) → at (step C F k s) i ≡ hit i k + at s i
  unfolding step put
  at_step s k v c i = go (ℕ_discrete i k)
    where
      inl : k < length s.progress
      inl = omega arith

      go : Dec (i ≡ k) → at (step C F k s) i ≡ hit i k + at s i
      go (yes e) = rw e (rw (get_or-set_same s.progress k _ 0 inl, hit_same) (omega arith))
      go (no d) = rw (get_or-set_other, hit_other) (omega arith)

  -- a stage that may take a step is behind every stage before it
  pub lag : (s : State X H) (j k : ℕ) → j < k → Inv C Fits F s → Ok C F s k → at s k < at s j
  lag s j k h v c = omega (arith, c.behind (omega arith), v.falls j (k - 1) (omega arith) (omega arith))

  -- ---- samples

  long : (s : State X H) (k : ℕ) → Inv C Fits F s → Ok C F s k → length (step C F k s).samples ≡ length s.samples
  unfolding step put
  long s k v c = length_splice (at s k * 2) (out C F k s).frame s.samples (omega (arith, (made s k v c).frame))

  before : (s : State X H) (k : ℕ) → Inv C Fits F s → Ok C F s k → (a m : ℕ) → a + m ≤ at s k * 2 → part a m (step C F k s).samples ≡ part a m s.samples
  unfolding step put
  before s k v c a m h = part_before a m (at s k * 2) (out C F k s).frame s.samples h (omega arith)

  frame : (s : State X H) (k : ℕ) → Inv C Fits F s → Ok C F s k → part (at s k * 2) 2 (step C F k s).samples ≡ (out C F k s).frame
  unfolding step put
  frame s k v c = part_same (at s k * 2) 2 (out C F k s).frame s.samples (made s k v c).frame (omega arith)

  after : (s : State X H) (k : ℕ) → Inv C Fits F s → Ok C F s k → drop (suc (at s k) * 2) (step C F k s).samples ≡ drop (suc (at s k) * 2) s.samples
  unfolding step put
  after s k v c =
      let e = (made s k v c).frame in
      drop_after (at s k * 2) (out C F k s).frame (suc (at s k) * 2) s.samples (omega arith) (omega arith)

  -- ---- what holds between steps

  keep : (s : State X H) (k : ℕ) → Inv C Fits F s → Ok C F s k → Inv C Fits F (step C F k s)
  keep s k v c = record {
    samples = rw (long s k v c) v.samples;
    held = unfold step put in L.put_fits k (out C F k s).held s.held c.inside v.held (made s k v c).held;
    stages = unfold step put in rw length-set v.stages;
    within = λ a l. top a l (ℕ_discrete a k);
    falls = λ a b h l. go a b h l (ℕ_discrete a k) (ℕ_discrete b k);
  }
    where
      top : (a : ℕ) → a < C.n → Dec (a ≡ k) → at (step C F k s) a ≤ F
      top a l (yes e) = rw e (omega (arith, at_step s k v c k, hit_same k))
      top a l (no d) = omega (arith, at_step s k v c a, hit_other a k d, v.within a l)

      go : (a b : ℕ) → a ≤ b → b < C.n → Dec (a ≡ k) → Dec (b ≡ k) → at (step C F k s) b ≤ at (step C F k s) a
      go a b h l (yes e) (yes d) = rw (e, d) (omega arith)
      go a b h l (yes e) (no d) = omega (arith, at_step s k v c a, at_step s k v c b, hit_other b k d, v.falls a b h l)
      go a b h l (no e) (yes d) = rw d (omega (arith, at_step s k v c a, at_step s k v c k, hit_same k, lag s a k (omega arith) v c))
      go a b h l (no e) (no d) = omega (arith, at_step s k v c a, at_step s k v c b, hit_other a k e, hit_other b k d, v.falls a b h l)

  pub one_step : (s : State X H) (k : ℕ) → Inv C Fits F s → Ok C F s k → Stepped C Fits F k s (step C F k s)
  one_step s k v c = record {
    before = before s k v c;
    frame = frame s k v c;
    after = after s k v c;
    samples = long s k v c;
    held = unfold step put in refl;
    moved = omega (arith, at_step s k v c k, hit_same k);
    others = λ j d. omega (arith, at_step s k v c j, hit_other j k d);
    progress = unfold step put in length-set s.progress k (suc (at s k));
    inv = keep s k v c;
  }
