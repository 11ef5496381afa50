use Rattle.std.proofs.Common.{sym}
use Rattle.std.specs.Float.{binary32}
use lib.Ieee.{of_bits}
use Rattle.float.proofs.Patterns.{nan_pattern, no_nan_pattern}
use Rattle.float.proofs.floating.F32Floating.from_own_bits.Goals as goal

pub returns-then-bits-gt2139095040 : goal.returns-then-bits-gt2139095040
unfolding of_bits
returns-then-bits-gt2139095040 c = sym (nan_pattern binary32 c.args.bits c.if-bits-gt2139095040.true)

pub float_from_bits-result : goal.float_from_bits-result
float_from_bits-result c = no_nan_pattern binary32 c.args.bits c.if-bits-gt2139095040.false
