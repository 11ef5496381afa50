-- Cases of kira's enums by their places in the Rust, from 0; a number past the end is the last case. Definitions only.
use Rattle.std.specs.Prelude.{cond, ℕ, eqb}
use Rattle.plain_effects.specs.declared.distortion.DistortionKind.{DistortionKind}
use Rattle.plain_effects.specs.declared.distortion.DistortionKind.TheVariants.{HardClip, SoftClip}
use Rattle.filters.specs.declared.filter.FilterMode.{FilterMode}
use Rattle.filters.specs.declared.filter.FilterMode.TheVariants.{LowPass, BandPass, HighPass, Notch}
use Rattle.filters.specs.declared.eq_filter.EqFilterKind.{EqFilterKind}
use Rattle.filters.specs.declared.eq_filter.EqFilterKind.TheVariants.{Bell, LowShelf, HighShelf}

-- how a distortion clips: 0 is hard, and every other number soft
unfoldable pub clip_at : ℕ → DistortionKind
clip_at code = cond (eqb code 0) HardClip SoftClip

-- a filter's mode: 0 is low-pass, 1 band-pass, 2 high-pass, and every other number notch
unfoldable pub mode_at : ℕ → FilterMode
mode_at code = cond (eqb code 0) LowPass (cond (eqb code 1) BandPass (cond (eqb code 2) HighPass Notch))

-- an EQ's kind: 0 is a bell, 1 a low shelf, and every other number a high shelf
unfoldable pub eq_kind_at : ℕ → EqFilterKind
eq_kind_at code = cond (eqb code 0) Bell (cond (eqb code 1) LowShelf HighShelf)
