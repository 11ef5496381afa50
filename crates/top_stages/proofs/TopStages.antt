-- Laws of the top stages: their places rise and end at the count, and the list of places that `Tops::of` writes. Assumes nothing.
use Rattle.std.proofs.Common.{◌≡◌, refl, ap, sym, ◌∙◌, Bool, List, ℕ, zero, suc, ◌+◌, ◌≤◌, ◌<◌, arith, add-one, leb, length, get_or, set, length-set, get_or-set_other, leb-true, leb-false, le-leb}
use native.Mathlib.Decide.{ℕ_discrete, dec_lt}
use borrow.Author.Tests.{lt-leb}
use Rattle.memories.specs.Sizes.{places}
use Rattle.stage.specs.declared.setup.Setup.{Setup}
use Rattle.stage.specs.Setup.{stage_at, used_of, next_place}
use Rattle.stage.specs.Listed.{list_of}
use Rattle.theory_tables.proofs.Firsts.{first_le, first_so, first_clear}
use Rattle.stage.proofs.Listed.{listed_at, listed_all, listed_more}
use Rattle.stage.proofs.Next.{next_le, next_more, next_outside}
use Rattle.top_stages.specs.declared.Tops.{Tops}
use Rattle.top_stages.specs.Tops.{top_at, tops_of, top_or0, tops_record}

module _ (setup : Setup) where
  abbrev c : ℕ
  c = used_of setup

  -- ---- the places
  pub top_zero : top_at setup 0 ≡ 0
  unfolding top_at
  top_zero = refl

  pub top_more : (k i : ℕ) → i ≡ top_at setup k → next_place (stage_at setup i) i c ≡ top_at setup (k + 1)
  unfolding top_at
  top_more k i e = ap (λ (j : ℕ). next_place (stage_at setup j) j c) e ∙ sym (ap (top_at setup) (add-one k))

  pub top_le : (k : ℕ) → top_at setup k ≤ c
  unfolding top_at
  top_le zero = omega arith
  top_le (suc k) = next_le (stage_at setup (top_at setup k)) (top_at setup k) c

  -- a place below the count is followed by a later one
  top_later : (k : ℕ) → top_at setup k < c → top_at setup k < top_at setup (suc k)
  unfolding top_at
  top_later k h = next_more (stage_at setup (top_at setup k)) (top_at setup k) c h

  -- and one at the count by the count
  top_stays : (k : ℕ) → c ≤ top_at setup k → top_at setup (suc k) ≡ c
  unfolding top_at
  top_stays k h = next_outside (stage_at setup (top_at setup k)) (top_at setup k) c (omega arith)

  pub top_next : (k : ℕ) → top_at setup k ≤ top_at setup (suc k)
  top_next k = go (dec_lt (top_at setup k) c)
    where
      go : Dec (top_at setup k < c) → top_at setup k ≤ top_at setup (suc k)
      go (yes h) = omega (arith, top_later k h)
      go (no h) = omega (arith, top_stays k (omega arith), top_le k)

  pub top_mono : (j k : ℕ) → j ≤ k → top_at setup j ≤ top_at setup k
  top_mono j zero h = let e : j ≡ 0 = omega arith in omega (arith, ap (top_at setup) e)
  top_mono j (suc k) h = go (dec_lt j (suc k)) (top_mono j k)
    where
      go : Dec (j < suc k) → (j ≤ k → top_at setup j ≤ top_at setup k) → top_at setup j ≤ top_at setup (suc k)
      go (yes q) r = omega (arith, r (omega arith), top_next k)
      go (no q) r = let e : j ≡ suc k = omega arith in omega (arith, ap (top_at setup) e)

  -- ---- how many there are
  abbrev past : ℕ → Bool
  past k = leb c (top_at setup k)

  pub tops_few : tops_of setup ≤ places
  unfolding tops_of
  tops_few = first_le past places

  top_below : (k : ℕ) → k < tops_of setup → top_at setup k < c
  unfolding tops_of
  top_below k h = leb-false c (top_at setup k) (first_clear past places k h)

  pub top_past : (k : ℕ) → k < tops_of setup → top_at setup k < top_at setup (suc k)
  top_past k h = top_later k (top_below k h)

  -- a top stage has at least the stages before it before it
  top_from : (k : ℕ) → k ≤ tops_of setup → k ≤ top_at setup k
  top_from zero h = omega arith
  top_from (suc k) h = omega (arith, top_from k (omega arith), top_past k h)

  top_end : c ≤ places → top_at setup (tops_of setup) ≡ c
  unfolding tops_of
  top_end h = go (dec_lt (tops_of setup) places)
    where
      go : Dec (tops_of setup < places) → top_at setup (tops_of setup) ≡ c
      go (yes g) = omega (arith, leb-true c (top_at setup (tops_of setup)) (first_so past places g), top_le (tops_of setup))
      go (no g) = omega (arith, top_from (tops_of setup) (omega arith), top_le (tops_of setup))

  -- where a place is below the count there are more, and where it is not there are no more
  pub tops_more : (k : ℕ) → c ≤ places → k ≤ tops_of setup → top_at setup k < c → k < tops_of setup
  tops_more k h g q = go (ℕ_discrete k (tops_of setup))
    where
      go : Dec (k ≡ tops_of setup) → k < tops_of setup
      go (yes e) = absurd (omega (arith, ap (top_at setup) e, top_end h))
      go (no d) = omega arith

  pub tops_are : (k : ℕ) → k ≤ tops_of setup → c ≤ top_at setup k → k ≡ tops_of setup
  tops_are k g q = go (dec_lt k (tops_of setup))
    where
      go : Dec (k < tops_of setup) → k ≡ tops_of setup
      go (yes h) = absurd (omega (arith, top_below k h))
      go (no h) = omega arith

  -- ---- the list of places
  places_are : list_of (top_or0 setup) (places + 1) ≡ (tops_record setup).places
  unfolding tops_record
  places_are = refl

  pub places_at : {places : List ℕ} → places ≡ (tops_record setup).places → (k : ℕ) → k ≤ tops_of setup → get_or places k 0 ≡ top_at setup k
  places_at e k h = ap (λ (xs : List ℕ). get_or xs k 0) (e ∙ sym places_are) ∙ listed_at (top_or0 setup) 0 (places + 1) k (omega (arith, tops_few)) ∙ rw (le-leb k (tops_of setup) h)

  -- ---- a loop that fills it: the entries up to n stand, and those beyond are 0
  pub record Written (n : ℕ) (xs : List ℕ) : Type 0 where
    pub full : length xs ≡ places + 1
    pub stands : (k : ℕ) → k < n + 1 → get_or xs k 0 ≡ top_at setup k
    pub beyond : (k : ℕ) → k < places + 1 → n < k → get_or xs k 0 ≡ 0

  pub written_more : (n v : ℕ) (xs : List ℕ) → n < places → Written n xs → v ≡ top_at setup (n + 1) → Written (n + 1) (set xs (n + 1) v)
  written_more n v xs h w e = record {
    full = length-set xs (n + 1) v ∙ w.full;
    stands = listed_more (top_at setup) 0 xs (n + 1) v (omega (arith, w.full)) w.stands e;
    beyond = λ k f g. get_or-set_other xs (n + 1) k v 0 (λ e. omega arith) ∙ w.beyond k f (omega arith);
  }

  pub written_all : (n : ℕ) (xs : List ℕ) → Written n xs → n ≡ tops_of setup → ◌≡◌ {A = Tops} (record { places = xs; n = n }) (tops_record setup)
  unfolding tops_record
  written_all n xs w e = λ i. record { places = listed_all (top_or0 setup) 0 xs (places + 1) w.full (λ k h. at k h (dec_lt n k)) i; n = e i }
    where
      at : (k : ℕ) → k < places + 1 → Dec (n < k) → get_or xs k 0 ≡ top_or0 setup k
      at k h (yes q) = w.beyond k h q ∙ rw (lt-leb k (tops_of setup) (omega arith))
      at k h (no q) = w.stands k (omega arith) ∙ rw (le-leb k (tops_of setup) (omega arith))

-- ---- what `Tops::of` finds
module _ (setup : Setup) {t : Tops} (e : t ≡ tops_record setup) where
  pub tops_found : t.n ≡ tops_of setup
  unfolding tops_record
  tops_found = ap (λ (t : Tops). t.n) e

  pub places_found : t.places ≡ (tops_record setup).places
  places_found = ap (λ (t : Tops). t.places) e
