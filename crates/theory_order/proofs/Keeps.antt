-- What an accepted order keeps, and how far it brings each stage.
use Rattle.std.proofs.Common.{◌≡◌, refl, ◌∙◌, List, [], ◌∷◌, ℕ, zero, suc, ◌≤◌, ◌<◌, arith, length, get_or}
use Rattle.theory_order.specs.Order.{count, run, Allowed}
use Rattle.theory_order.specs.Chain.{State, Chain, step, Ok, Local, Inv}
use Rattle.theory_order.specs.Claims.{Kept}
use Rattle.theory_order.proofs.Orders.{hit_other}
use Rattle.theory_order.proofs.OneStep.{at_step, one_step}

module _ {X H : Type 0} (C : Chain X H) (F : ℕ) where
  pub entries_inside : (xs : List ℕ) (s : State X H) → Allowed (step C F) (Ok C F) s xs → (i : ℕ) → i < length xs → get_or xs i 0 < C.n
  entries_inside [] s a i h = absurd (omega arith)
  entries_inside (k ∷ xs) s a zero h = a.0.inside
  entries_inside (k ∷ xs) s a (suc i) h = entries_inside xs (step C F k s) a.1 i (omega arith)

  -- so what is no stage is not named
  pub count_beyond : (xs : List ℕ) (s : State X H) → Allowed (step C F) (Ok C F) s xs → (i : ℕ) → C.n ≤ i → count i xs ≡ 0
  unfolding count
  count_beyond [] s a i h = refl
  count_beyond (k ∷ xs) s a i h = omega (arith, count_beyond xs (step C F k s) a.1 i h, hit_other i k (omega (arith, a.0.inside)))

module _ {X H : Type 0} (C : Chain X H) (Fits : H → Type 0) (Sized : ℕ → H → Type 0) (L : Local C Fits Sized) (F : ℕ) where
  pub run_keeps : (xs : List ℕ) (s : State X H) → Inv C Fits F s → Allowed (step C F) (Ok C F) s xs → Kept C Fits F xs s (run (step C F) s xs)
  unfolding count
  run_keeps [] s v a = record { inv = v; moved = λ i. omega arith; entries = λ i h. absurd (omega arith); samples = refl; progress = refl }
  run_keeps (k ∷ xs) s v a =
      let o = one_step C Fits Sized L F s k v a.0 in
      let r = run_keeps xs (step C F k s) o.inv a.1 in
      record {
        inv = r.inv;
        moved = λ i. omega (arith, r.moved i, at_step C Fits Sized L F s k v a.0 i);
        entries = entries_inside C F (k ∷ xs) s a;
        samples = r.samples ∙ o.samples;
        progress = r.progress ∙ o.progress;
      }
