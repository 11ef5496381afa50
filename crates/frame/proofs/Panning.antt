-- The two cases of panning, apart. Assumes nothing.
use Rattle.std.proofs.Common.{◌≡◌, ap, Bool, true, false, cond, Float}
use Rattle.std.specs.Float.{binary32}
use lib.Ieee.{sub, mul, eq}
use Rattle.float.specs.Literal.{literal}
use Rattle.rounding.specs.Root.{sqrt_of}
use Rattle.frame.specs.declared.Frame.{Frame}
use Rattle.frame.specs.Operations.{mul_of}
use Rattle.frame.specs.Panning.{panned_of, sqrt2, rightward}

module _ (a : Frame) (p : Float) where
  abbrev sides : Frame
  sides =
      mul_of
      (record { left = mul binary32 a.left (sqrt_of binary32 (sub binary32 (literal binary32 1 1) (rightward p))); right = mul binary32 a.right (sqrt_of binary32 (rightward p)) })
      sqrt2

  pub centred : eq p (literal binary32 0 1) ≡ true → panned_of a p ≡ a
  unfolding panned_of
  centred h = ap (λ (b : Bool). cond b a sides) h

  pub aside : eq p (literal binary32 0 1) ≡ false → panned_of a p ≡ sides
  unfolding panned_of
  aside h = ap (λ (b : Bool). cond b a sides) h
