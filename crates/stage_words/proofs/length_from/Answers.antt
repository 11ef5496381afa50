-- The words from n on are 0, so that the length is that of the first n. Assumes nothing.
use Rattle.std.proofs.Common.{◌≡◌, refl, sym, ◌∙◌, List, ℕ, zero, suc, ◌+◌, ◌-◌, ◌<◌, arith, eq-eqb, ne_eqb}
use Rattle.stage_words.specs.Words.{word_at, length_from}
use Rattle.stage_words.proofs.length_from.Goals as goal

module _ (words : List ℕ) (at : ℕ) where
  length_none : length_from words at 0 ≡ 0
  unfolding length_from
  length_none = refl

  length_found : (n : ℕ) → 0 < n → (word_at words (at + (n - 1)) ≡ 0 → ⊥) → length_from words at n ≡ n
  unfolding length_from
  length_found zero h q = absurd (omega arith)
  length_found (suc n) h q = let e : suc n - 1 ≡ n = omega arith in simp (ne_eqb _ _ (rw e at q))

  length-less : (n : ℕ) → 0 < n → word_at words (at + (n - 1)) ≡ 0 → length_from words at n ≡ length_from words at (n - 1)
  unfolding length_from
  length-less zero h q = absurd (omega arith)
  length-less (suc n) h q = let e : suc n - 1 ≡ n = omega arith in rw e (simp (eq-eqb _ _ (rw e at q)))

pub returns-then-word_at-ne0 : goal.returns-then-word_at-ne0
returns-then-word_at-ne0 c =
    let e : c.loop-n.n - 1 + 1 ≡ c.loop-n.n = omega arith in
    e ∙ sym (length_found _ _ _ (omega arith) (λ e. c.if-word_at-ne0.true (c.word_at.ensures ∙ e))) ∙ c.loop-n.invariant

pub loop-n-preserved : goal.loop-n-preserved
loop-n-preserved c = sym (length-less _ _ _ (omega arith) (sym c.word_at.ensures ∙ c.if-word_at-ne0.false)) ∙ c.loop-n.invariant

pub returns : goal.returns
returns c =
    let none : c.loop-n.n ≡ 0 = omega arith in
    sym (length_none _ _) ∙ rw none at c.loop-n.invariant
