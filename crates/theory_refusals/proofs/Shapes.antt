-- What a list without a faulty stage looks like: what each stage owns ends inside the list and inside what its owners own, and no stage is deeper than 3. Assumes nothing.
use Rattle.std.proofs.Common.{◌≡◌, ap, ◌∙◌, inl, inr, ℕ, zero, suc, ◌+◌, ◌≤◌, ◌<◌, arith, lt_of_not-le, le-leb}
use native.Mathlib.Decide.{dec_lt}
use borrow.Author.Tests.{lt-leb}
use Rattle.stage.specs.declared.setup.Setup.{Setup}
use Rattle.stage.specs.Setup.{used_of}
use Rattle.refusals.specs.Shape.{last_of, depth_of, faulty}
use Rattle.theory_refusals.specs.TopStages.{NoneFaulty}

module _ (setup : Setup) (i : ℕ) where
  -- ---- how many of the first n stages own the one at i: stage n does, or it does not
  pub depth_owned : (n : ℕ) → i ≤ last_of setup n → depth_of setup i (suc n) ≡ depth_of setup i n + 1
  unfolding depth_of
  depth_owned n h = rw (le-leb i (last_of setup n) h)

  depth_free : (n : ℕ) → last_of setup n < i → depth_of setup i (suc n) ≡ depth_of setup i n
  unfolding depth_of
  depth_free n h = rw (lt-leb i (last_of setup n) h) (omega arith)

  depth_next : (n : ℕ) → depth_of setup i n ≤ depth_of setup i (suc n)
  depth_next n = go (dec_lt (last_of setup n) i)
    where
      go : Dec (last_of setup n < i) → depth_of setup i n ≤ depth_of setup i (suc n)
      go (yes h) = omega (arith, depth_free n h)
      go (no h) = omega (arith, depth_owned n (omega arith))

  -- of more stages, as many or more
  pub depth_more : (m n : ℕ) → m ≤ n → depth_of setup i m ≤ depth_of setup i n
  depth_more m zero h = let e : m ≡ 0 = omega arith in omega (arith, ap (depth_of setup i) e)
  depth_more m (suc n) h = go (dec_lt n m) (depth_more m n)
    where
      go : Dec (n < m) → (m ≤ n → depth_of setup i m ≤ depth_of setup i n) → depth_of setup i m ≤ depth_of setup i (suc n)
      go (yes g) r = let e : m ≡ suc n = omega arith in omega (arith, ap (depth_of setup i) e)
      go (no g) r = omega (arith, r (omega arith), depth_next n)

  -- none, where none of them reaches so far
  pub depth_none : (n : ℕ) → ((j : ℕ) → j < n → last_of setup j < i) → depth_of setup i n ≡ 0
  unfolding depth_of
  depth_none zero h = omega arith
  depth_none (suc n) h = depth_free n (h n (omega arith)) ∙ depth_none n (λ j g. h j (omega arith))

module _ (setup : Setup) (sound : NoneFaulty setup) (i : ℕ) (h : i < used_of setup) where
  pub ends_inside : last_of setup i < used_of setup
  unfolding faulty
  ends_inside = lt_of_not-le (λ q. sound i h (inl (inl q)))

  -- what j owns, it owns with all that belongs to it
  pub owned_whole : (j : ℕ) → j < i → i ≤ last_of setup j → last_of setup i ≤ last_of setup j
  unfolding faulty
  owned_whole j g o = go (dec_lt (last_of setup j) (last_of setup i))
    where
      go : Dec (last_of setup j < last_of setup i) → last_of setup i ≤ last_of setup j
      go (yes q) = absurd (sound i h (inl (inr (j, g, (o, q)))))
      go (no q) = omega arith

  pub not_deep : depth_of setup i i ≤ 3
  unfolding faulty
  not_deep = go (dec_lt 3 (depth_of setup i i))
    where
      go : Dec (3 < depth_of setup i i) → depth_of setup i i ≤ 3
      go (yes q) = absurd (sound i h (inr q))
      go (no q) = omega arith
