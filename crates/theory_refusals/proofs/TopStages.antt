-- In a list without a faulty stage the top stages are those of depth 0, and each owns the stages up to the next one. Assumes nothing.
use Rattle.std.proofs.Common.{◌≡◌, refl, ap, sym, ◌∙◌, ℕ, zero, suc, ◌≤◌, ◌<◌, arith, add-one}
use native.Mathlib.Decide.{dec_lt}
use Rattle.stage.specs.declared.setup.Setup.{Setup}
use Rattle.stage.specs.Setup.{stage_at, used_of}
use Rattle.stage.proofs.Next.{next_inside}
use Rattle.top_stages.specs.Tops.{top_at, tops_of}
use Rattle.top_stages.proofs.TopStages.{top_zero, top_more, top_le, top_mono, top_past, tops_more}
use Rattle.refusals.specs.Shape.{last_of, depth_of}
use Rattle.theory_refusals.specs.TopStages.{NoneFaulty, TopStands, TopStagesHaveDepth0}
use Rattle.theory_refusals.proofs.Shapes.{depth_owned, depth_more, depth_none, ends_inside, owned_whole}

module _ (setup : Setup) where
  top_used : (k : ℕ) → k < tops_of setup → top_at setup k < used_of setup
  top_used k h = omega (arith, top_past setup k h, top_le setup (suc k))

  tops_end : top_at setup (tops_of setup) ≡ used_of setup
  tops_end = go (dec_lt (top_at setup (tops_of setup)) (used_of setup))
    where
      go : Dec (top_at setup (tops_of setup) < used_of setup) → top_at setup (tops_of setup) ≡ used_of setup
      go (yes h) = absurd (omega (arith, tops_more setup (tops_of setup) (omega arith) (omega arith) h))
      go (no h) = omega (arith, top_le setup (tops_of setup))

  -- a place before top stage n belongs to one of the top stages before it
  top_over : (n i : ℕ) → i < top_at setup n → (k : ℕ) × (k < n) × (top_at setup k ≤ i) × (i < top_at setup (suc k))
  top_over zero i h = absurd (omega (arith, top_zero setup))
  top_over (suc n) i h = go (dec_lt i (top_at setup n)) (top_over n i)
    where
      go : Dec (i < top_at setup n) → (i < top_at setup n → (k : ℕ) × (k < n) × (top_at setup k ≤ i) × (i < top_at setup (suc k))) → (k : ℕ) × (k < suc n) × (top_at setup k ≤ i) × (i < top_at setup (suc k))
      go (yes g) r = let t = r g in (t.0, omega (arith, t.1), t.2, t.3)
      go (no g) r = (n, omega arith, omega arith, h)

  module _ (sound : NoneFaulty setup) where
    -- the next top stage comes right after what this one owns
    top_last : (k : ℕ) → k < tops_of setup → top_at setup (suc k) ≡ suc (last_of setup (top_at setup k))
    top_last k h =
        let i = top_at setup k in
        let last = ends_inside setup sound i (top_used k h) in
        let more = top_more setup k i refl in
        let next = next_inside (stage_at setup i) i (used_of setup) (omega arith) in
        ap (top_at setup) (sym (add-one k)) ∙ omega arith

    -- what a stage before a top stage owns ends before it
    pub ends_before : (n j : ℕ) → n ≤ tops_of setup → j < top_at setup n → last_of setup j < top_at setup n
    ends_before n j h g =
        let t = top_over n j g in
        let k : t.0 < tops_of setup = omega (arith, t.1) in
        let last = top_last t.0 k in
        let later = top_mono setup (suc t.0) n t.1 in
        go t.0 last t.2 t.3 later (dec_lt (top_at setup t.0) j)
      where
        go : (k : ℕ) → top_at setup (suc k) ≡ suc (last_of setup (top_at setup k)) → top_at setup k ≤ j → j < top_at setup (suc k) → top_at setup (suc k) ≤ top_at setup n → Dec (top_at setup k < j) → last_of setup j < top_at setup n
        go k last from to later (yes past) = omega (arith, owned_whole setup sound j (omega (arith, top_le setup n)) (top_at setup k) past (omega arith))
        go k last from to later (no past) = let e : j ≡ top_at setup k = omega arith in omega (arith, ap (last_of setup) e)

    shallow_of_top : (i : ℕ) → TopStands setup i → depth_of setup i i ≡ 0
    shallow_of_top i (k, h, e) = depth_none setup i i (λ j g. rw e at (ends_before k j (omega arith) (rw e g)))

    top_of_shallow : (i : ℕ) → i < used_of setup → depth_of setup i i ≡ 0 → TopStands setup i
    top_of_shallow i h d =
        let t = top_over (tops_of setup) i (rw tops_end h) in
        (t.0, t.1, go t.0 (top_last t.0 t.1) t.2 t.3 (dec_lt (top_at setup t.0) i))
      where
        go : (k : ℕ) → top_at setup (suc k) ≡ suc (last_of setup (top_at setup k)) → top_at setup k ≤ i → i < top_at setup (suc k) → Dec (top_at setup k < i) → top_at setup k ≡ i
        go k last from to (yes past) = absurd (omega (arith, depth_owned setup i (top_at setup k) (omega arith), depth_more setup i (suc (top_at setup k)) i past))
        go k last from to (no past) = omega arith

pub top_stages : TopStagesHaveDepth0
top_stages setup sound = record {
  shallow = λ i h. (shallow_of_top setup sound i, top_of_shallow setup sound i h);
  front = top_zero setup;
  end = tops_end setup;
  rise = top_past setup;
  own = λ k i h g. (λ o. omega (arith, top_last setup sound k h), λ o. omega (arith, top_last setup sound k h));
}
