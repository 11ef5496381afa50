-- What an accepted block is known to meet still holds after a step that may be taken: so every part of an accepted order is accepted. Assumes nothing.
use Rattle.std.proofs.Common.{◌≡◌, sym, ap, ◌∙◌, subst, true, List, ℕ, suc, ◌+◌, ◌*◌, ◌-◌, ◌≤◌, ◌<◌, le_of_eq, arith, Float, length, get_or, drop, get_or-drop}
use Rattle.std.specs.Float.{nan}
use native.Mathlib.Nat.{sub-zero}
use native.Mathlib.Decide.{ℕ_discrete}
use Rattle.float.specs.Finite.{finite_of}
use Rattle.line.specs.Held.{Held, ran}
use Rattle.theory_order.specs.Stretch.{part}
use Rattle.theory_order.specs.Chain.{State, at, out}
use Rattle.theory_order.specs.Claims.{Stepped}
use Rattle.theory_order.proofs.OneStep.{one_step, lag, made}
use Rattle.theory_order.proofs.Stretches.{length_part}
use Rattle.stage.specs.declared.setup.Setup.{Setup}
use Rattle.memories.specs.Sizes.{place_positions}
use Rattle.stage.specs.Setup.{stage_at, used_of}
use Rattle.line_layout.specs.Layout.{starts_of}
use Rattle.line_layout.specs.Lines.{lines_of}
use Rattle.theory_steps.proofs.OnLines.{Good, place_stays, good_part, good_splice}
use Rattle.top_stages.specs.Tops.{top_at, tops_of}
use Rattle.refusals.specs.Refusals.{unrun_from}
use Rattle.refusals.proofs.Unrun.{unrun_some}
use Rattle.top_stages.proofs.TopStages.{top_le, top_next}
use Rattle.line.specs.Frames.{frame_at}
use Rattle.chain.specs.Chain.{stretch, replaced, Room, chain_of, frames_of, Ready, May, stepped}
use Rattle.chain.proofs.ChainLocal.{Sized, chain_local}

-- ---- samples past the frame that a step runs are as they were
past_frame : (n i : ℕ) (xs ys : List Float) → drop n xs ≡ drop n ys → n ≤ i → get_or xs i nan ≡ get_or ys i nan
past_frame n i xs ys e h =
    let k : n + (i - n) ≡ i = omega arith in
    sym (ap (λ (m : ℕ). get_or xs m nan) k) ∙ sym (get_or-drop n xs (i - n) nan) ∙ ap (λ (l : List Float). get_or l (i - n) nan) e ∙ get_or-drop n ys (i - n) nan ∙ ap (λ (m : ℕ). get_or ys m nan) k

module _ (setup : Setup) (s : State Float Held) (k : ℕ) (v : Ready setup s) (o : May setup s k) where
  abbrev F : ℕ
  F = frames_of s.samples

  w : Stepped (chain_of setup) (Room setup) F k s (stepped setup k s)
  w = one_step (chain_of setup) (Room setup) (Sized setup) (chain_local setup) F s k v o

  tops_some : 0 < tops_of setup
  tops_some = omega (arith, o.inside)

  -- the frames that top stage 0 has not run begin after the frame that was run
  unrun_after : suc (at s k) * 2 ≤ unrun_from (tops_of setup) (stepped setup k s).progress
  unrun_after = rw (unrun_some (tops_of setup) (stepped setup k s).progress tops_some) (go (ℕ_discrete 0 k))
    where
      go : Dec (0 ≡ k) → suc (at s k) * 2 ≤ 2 * at (stepped setup k s) 0
      go (yes e) = omega (arith, w.moved, ap (λ (j : ℕ). at (stepped setup k s) j) e)
      go (no d) = omega (arith, w.others 0 d, lag (chain_of setup) (Room setup) (Sized setup) (chain_local setup) F s 0 k (omega arith) v o)

  -- and not before those that it had not run
  unrun_more : unrun_from (tops_of setup) s.progress ≤ unrun_from (tops_of setup) (stepped setup k s).progress
  unrun_more = rw (unrun_some (tops_of setup) s.progress tops_some, unrun_some (tops_of setup) (stepped setup k s).progress tops_some) (go (ℕ_discrete 0 k))
    where
      go : Dec (0 ≡ k) → 2 * at s 0 ≤ 2 * at (stepped setup k s) 0
      go (yes e) = omega (arith, w.moved, ap (λ (j : ℕ). at (stepped setup k s) j) e, ap (λ (j : ℕ). at s j) e)
      go (no d) = omega (arith, w.others 0 d)

  pub still_finite : ((i : ℕ) → unrun_from (tops_of setup) s.progress ≤ i → i < length s.samples → finite_of (get_or s.samples i nan) ≡ true)
      → (i : ℕ) → unrun_from (tops_of setup) (stepped setup k s).progress ≤ i → i < length (stepped setup k s).samples → finite_of (get_or (stepped setup k s).samples i nan) ≡ true
  still_finite f i h g =
      ap finite_of (past_frame (suc (at s k) * 2) i (stepped setup k s).samples s.samples w.after (omega (arith, unrun_after)))
      ∙ f i (omega (arith, unrun_more)) (omega (arith, w.samples))

  -- ---- positions

  pub still_found : ((i j : ℕ) → i < used_of setup → j < length (lines_of setup.rate (stage_at setup i)) → get_or s.held.positions (place_positions * i + j) 0 < get_or (lines_of setup.rate (stage_at setup i)) j 0)
      → (i j : ℕ) → i < used_of setup → j < length (lines_of setup.rate (stage_at setup i)) → get_or (stepped setup k s).held.positions (place_positions * i + j) 0 < get_or (lines_of setup.rate (stage_at setup i)) j 0
  unfolding out stretch replaced
  still_found f i j ic jl =
      let t = top_at setup k in
      let e = top_at setup (suc k) in
      let C = chain_of setup in
      let xs = s.held.positions in
      let te : t ≤ e = top_next setup k in
      let ec : e ≤ used_of setup = top_le setup (suc k) in
      let n : place_positions * e - place_positions * t ≡ place_positions * (e - t) = omega arith in
      let m = made C (Room setup) (Sized setup) (chain_local setup) F s k v o in
      let own : length (part (place_positions * t) (place_positions * e - place_positions * t) xs) ≡ place_positions * (e - t) = length_part (place_positions * t) (place_positions * e - place_positions * t) xs (omega (arith, v.held.positions)) ∙ n in
      let all : Good setup 0 (used_of setup) xs = λ a b za ac bn. rw sub-zero (f a b ac bn) in
      let mine : Good setup t e (part (place_positions * t) (place_positions * e - place_positions * t) xs) = subst (λ (q : ℕ). Good setup t e (part (place_positions * t) q xs)) (sym n) (good_part setup t e xs ec all) in
      let after = good_splice setup t e (out C F k s).held.positions xs te ec v.held.positions (m.held.positions ∙ n) (place_stays setup (starts_of setup) t e (ran (frame_at 0 (part (at s k * 2) 2 s.samples)) (stretch setup t e s.held)) (le_of_eq (sym own)) mine) all in
      subst (λ (ps : List ℕ). get_or ps (place_positions * i + j) 0 < get_or (lines_of setup.rate (stage_at setup i)) j 0) (sym (ap (λ (h : Held). h.positions) w.held)) (rw sub-zero at (after i j (omega arith) ic jl))
