-- Two steps of a chain that may both be taken commute, and neither forbids the other: of two stages the later works on an
-- earlier frame, and each keeps to its own of what all hold.
use Rattle.std.proofs.Common.{◌≡◌, sym, ap₂, ◌∙◌, ◌≢◌, ℕ, suc, ◌-◌, ◌*◌, ◌<◌, arith}
use native.Mathlib.Decide.{dec_lt}
use lib.Seq.{set_comm}
use Rattle.theory_order.specs.Stretch.{splice}
use Rattle.theory_order.specs.Chain.{State, Chain, at, out, put, step, Ok, Made, Local, Inv}
use Rattle.theory_order.proofs.Stretches.{part_before, part_after, splice_comm}
use Rattle.theory_order.proofs.Diamond.{Diamond}
use Rattle.theory_order.proofs.OneStep.{made, at_step, lag, one_step}

module _ {X H : Type 0} (C : Chain X H) (Fits : H → Type 0) (Sized : ℕ → H → Type 0) (L : Local C Fits Sized) (F : ℕ) where
  stay : (s : State X H) (j k : ℕ) → Inv C Fits F s → j ≢ k → Ok C F s j → Ok C F s k → Ok C F (step C F j s) k
  stay s j k v d b c =
      let e = (one_step C Fits Sized L F s j v b).others k (λ q. d (sym q)) in
      record { inside = c.inside; room = omega arith; behind = λ h. omega (arith, at_step C Fits Sized L F s j v b (k - 1), c.behind h) }

  -- ---- stage j stands before stage k

  module _ (s : State X H) (j k : ℕ) (h : j < k) (v : Inv C Fits F s) (b : Ok C F s j) (c : Ok C F s k) where
    -- one is where it was after the other's step
    k_stays : at (step C F j s) k ≡ at s k
    k_stays = (one_step C Fits Sized L F s j v b).others k (omega arith)

    j_stays : at (step C F k s) j ≡ at s j
    j_stays = (one_step C Fits Sized L F s k v c).others j (omega arith)

    -- and makes what it would have made
    k_later : out C F k (step C F j s) ≡ out C F k s
    unfolding out step put
    k_later =
        rw (
          out,
          k_stays,
          part_before (at s k * 2) 2 (at s j * 2) (out C F j s).frame s.samples (omega (arith, lag C Fits Sized L F s j k h v c)) (omega arith),
          L.own_apart j k (out C F j s).held s.held (omega arith) b.inside c.inside v.held (made C Fits Sized L F s j v b).held,
        )

    j_later : out C F j (step C F k s) ≡ out C F j s
    unfolding out step put
    j_later =
        let m = made C Fits Sized L F s k v c in
        rw (
          out,
          j_stays,
          part_after (at s j * 2) 2 (at s k * 2) (out C F k s).frame s.samples (omega (arith, lag C Fits Sized L F s j k h v c)) (omega arith),
          L.own_apart k j (out C F k s).held s.held (omega arith) c.inside b.inside v.held m.held,
        )

    -- and the two are put back in either order
    put_comm : put C k (at s k) (out C F k s) (put C j (at s j) (out C F j s) s) ≡ put C j (at s j) (out C F j s) (put C k (at s k) (out C F k s) s)
    unfolding put
    put_comm = λ i. record { samples = x i; held = a i; progress = set_comm s.progress j k (suc (at s j)) (suc (at s k)) (omega arith) i }
      where
        mj : Made C Fits Sized j (out C F j s)
        mj = made C Fits Sized L F s j v b

        mk : Made C Fits Sized k (out C F k s)
        mk = made C Fits Sized L F s k v c

        x : splice (at s k * 2) (out C F k s).frame (splice (at s j * 2) (out C F j s).frame s.samples) ≡ splice (at s j * 2) (out C F j s).frame (splice (at s k * 2) (out C F k s).frame s.samples)
        x = splice_comm (at s k * 2) (out C F k s).frame (at s j * 2) (out C F j s).frame s.samples (omega (arith, mk.frame, lag C Fits Sized L F s j k h v c)) (omega (arith, mj.frame))

        a : C.put k (out C F k s).held (C.put j (out C F j s).held s.held) ≡ C.put j (out C F j s).held (C.put k (out C F k s).held s.held)
        a = sym (L.put_apart j k (out C F j s).held (out C F k s).held s.held h c.inside v.held mj.held mk.held)

    swap_up : step C F k (step C F j s) ≡ step C F j (step C F k s)
    unfolding step
    swap_up =
        ap₂ (λ p r. put C k p r (step C F j s)) k_stays k_later
        ∙ put_comm
        ∙ sym (ap₂ (λ p r. put C j p r (step C F k s)) j_stays j_later)

  swap : (s : State X H) (j k : ℕ) → Inv C Fits F s → j ≢ k → Ok C F s j → Ok C F s k → step C F k (step C F j s) ≡ step C F j (step C F k s)
  swap s j k v d b c = go (dec_lt j k)
    where
      go : Dec (j < k) → step C F k (step C F j s) ≡ step C F j (step C F k s)
      go (yes h) = swap_up s j k h v b c
      go (no h) = sym (swap_up s k j (omega arith) v c b)

  pub diamond : Diamond (step C F) (Ok C F) (Inv C Fits F)
  diamond = record { keep = λ s k v c. (one_step C Fits Sized L F s k v c).inv; stay = stay; swap = swap }
