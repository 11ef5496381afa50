use Rattle.std.proofs.Common.{◌≡◌, refl}
use Rattle.std.specs.Float.{nan}
use lib.Ieee.{to_bits}
use Rattle.float.proofs.Nan.{is_nan_lem, not_nan}
use Rattle.float.proofs.floating.F64Floating.own_bits.Goals as goal

pub returns-then-self-clause-bits : goal.returns-then-self-clause-bits
unfolding to_bits
returns-then-self-clause-bits c =
    let of_nan : c.args.self ≡ nan = is_nan_lem c.args.self c.if-self.true in
    rw of_nan refl

pub float_to_bits-result : goal.float_to_bits-result
float_to_bits-result c = not_nan c.args.self c.if-self.false
