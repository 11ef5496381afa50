-- One more byte is found. Assumes nothing.
use Rattle.std.proofs.Common.{◌≢◌, ◌<◌, ℕ, length, rules, get_or, get_or-set_other, get_or-set_same, below_more, ap, ◌∙◌, arith}
use Rattle.wav_bytes.proofs.Past.{held_past}
use Rattle.wav_bytes.proofs.bytes_at.Goals as goal

pub loop-k-preserved : goal.loop-k-preserved
loop-k-preserved g c =
    let bytes = c.args.bytes.now in
    let lt : c.loop-k.k < length c.loop-k.byte-items = omega arith in (
      search rules,
      below_more _ _
          (λ k h. let ne : k ≢ c.loop-k.k = omega arith in rw get_or-set_other (c.loop-k.invariant.1 k h))
          (rw get_or-set_same (c.byte_at.ensures ∙ ap (λ (n : ℕ). get_or bytes n 0) c.saturating_add.ensures ∙ held_past bytes _ _ (search rules))),
    )
