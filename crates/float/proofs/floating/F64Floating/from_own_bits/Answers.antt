use Rattle.std.proofs.Common.{sym}
use Rattle.std.specs.Float.{binary64}
use lib.Ieee.{of_bits}
use Rattle.float.proofs.Patterns.{nan_pattern, no_nan_pattern}
use Rattle.float.proofs.floating.F64Floating.from_own_bits.Goals as goal

pub returns-then-bits-gt9218868437227405312 : goal.returns-then-bits-gt9218868437227405312
unfolding of_bits
returns-then-bits-gt9218868437227405312 c = sym (nan_pattern binary64 c.args.bits c.if-bits-gt9218868437227405312.true)

pub float_from_bits-result : goal.float_from_bits-result
float_from_bits-result c = no_nan_pattern binary64 c.args.bits c.if-bits-gt9218868437227405312.false
