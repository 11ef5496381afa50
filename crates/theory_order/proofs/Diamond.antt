-- Over any kind of state: where two steps that may both be taken commute, and neither forbids the other, any two accepted
-- orders that name each step equally often leave the same. The first entry of one is pulled to the front of the other.
use Rattle.std.proofs.Common.{◌≡◌, refl, sym, ◌∙◌, subst, ◌≢◌, List, [], ◌∷◌, ℕ, ◌+◌, ◌<◌, arith}
use native.Mathlib.Decide.{ℕ_discrete}
use Rattle.theory_order.specs.Order.{hit, count, run, Allowed}
use Rattle.theory_order.proofs.Orders.{hit_same, hit_other}

pub record Diamond {S : Type 0} (step : ℕ → S → S) (Ok : S → ℕ → Type 0) (Inv : S → Type 0) : Type 0 where
  pub keep : (s : S) (k : ℕ) → Inv s → Ok s k → Inv (step k s)
  pub stay : (s : S) (j k : ℕ) → Inv s → j ≢ k → Ok s j → Ok s k → Ok (step j s) k
  pub swap : (s : S) (j k : ℕ) → Inv s → j ≢ k → Ok s j → Ok s k → step k (step j s) ≡ step j (step k s)

-- ---- ys is zs with one k more, before which ys has no k

data Pulled (k : ℕ) : List ℕ → List ℕ → Type 0 where
  here : {ys : List ℕ} → Pulled k (k ∷ ys) ys
  there : {j : ℕ} {ys zs : List ℕ} → j ≢ k → Pulled k ys zs → Pulled k (j ∷ ys) (j ∷ zs)

pull : (k : ℕ) (ys : List ℕ) → 0 < count k ys → (zs : List ℕ) × Pulled k ys zs
unfolding count
pull k [] h = absurd (omega arith)
pull k (j ∷ ys) h = go (ℕ_discrete j k) (pull k ys)
  where
    go : Dec (j ≡ k) → (0 < count k ys → (zs : List ℕ) × Pulled k ys zs) → (zs : List ℕ) × Pulled k (j ∷ ys) zs
    go (yes e) f = (ys, subst (λ i. Pulled k (i ∷ ys) ys) (sym e) here)
    go (no d) f =
        let r = f (omega (arith, hit_other k j (λ e. d (sym e)))) in
        (j ∷ r.0, there d r.1)

pull_count : {k : ℕ} {ys zs : List ℕ} → Pulled k ys zs → (i : ℕ) → count i ys ≡ hit i k + count i zs
unfolding count
pull_count here i = refl
pull_count (there d p) i = omega (arith, pull_count p i)

-- ---- what is run

module _ {S : Type 0} (step : ℕ → S → S) (Ok : S → ℕ → Type 0) (Inv : S → Type 0) (D : Diamond step Ok Inv) where
  -- a step that may be taken now can be taken before all others, up to where it stands
  front : {k : ℕ} {ys zs : List ℕ} → Pulled k ys zs → (s : S) → Inv s → Ok s k → Allowed step Ok s ys
      → Allowed step Ok (step k s) zs × (run step s ys ≡ run step (step k s) zs)
  front here s v o a = (a.1, refl)
  front {k} (there {j = j} {zs = zs} d p) s v o a =
      let r = front p (step j s) (D.keep s j v a.0) (D.stay s j k v d a.0 o) a.1 in
      let e : step k (step j s) ≡ step j (step k s) = D.swap s j k v d a.0 o in
      ((D.stay s k j v (λ q. d (sym q)) o a.0, rw e at r.0), r.1 ∙ rw e)

  pub same_counts : (xs ys : List ℕ) (s : S) → Inv s → Allowed step Ok s xs → Allowed step Ok s ys
      → ((i : ℕ) → count i xs ≡ count i ys) → run step s xs ≡ run step s ys
  unfolding count
  same_counts [] [] s v a b c = refl
  same_counts [] (k ∷ ys) s v a b c = absurd (omega (arith, c k, hit_same k))
  same_counts (k ∷ xs) ys s v a b c =
      let r = pull k ys (omega (arith, c k, hit_same k)) in
      let t = front r.1 s v a.0 b in
      same_counts xs r.0 (step k s) (D.keep s k v a.0) a.1 t.0 (λ i. omega (arith, c i, pull_count r.1 i)) ∙ sym t.1
