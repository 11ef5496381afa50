-- All bits of what is cleared are 0. Assumes nothing.
use Rattle.std.proofs.Common.{◌≡◌, refl, ℕ, List, ◌++◌, drop, replicate, Float}
use Rattle.std.specs.Float.{binary32}
use Rattle.std.specs.Float.Ieee.{of_bits, round}
use Rattle.float.specs.Literal.{literal}
use Rattle.fresh_start.specs.Start.{cleared_to}

pub cleared_zero : (n : ℕ) (xs : List Float) → cleared_to n xs ≡ replicate n (of_bits binary32 0) ++ drop n xs
unfolding cleared_to literal round of_bits
cleared_zero n xs = refl
