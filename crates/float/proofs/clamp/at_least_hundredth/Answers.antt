use Rattle.std.proofs.Common.{sym, ap, Bool, cond}
use Rattle.std.specs.Float.{binary64}
use lib.Ieee.{of_bits, round}
use Rattle.float.specs.Literal.{literal}
use Rattle.float.specs.Clamp.{hundredth_of}
use Rattle.float.proofs.clamp.at_least_hundredth.Goals as goal

pub returns-then-q : goal.returns-then-q
unfolding hundredth_of literal round of_bits
returns-then-q c = sym (ap (λ (b : Bool). cond b c.args.q (literal binary64 1 100)) c.if-q.true)

pub returns : goal.returns
unfolding hundredth_of literal round of_bits
returns c = sym (ap (λ (b : Bool). cond b c.args.q (literal binary64 1 100)) c.if-q.false)
