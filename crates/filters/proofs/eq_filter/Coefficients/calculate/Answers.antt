-- One law for the three kinds: each gets the q, 0.01 at least, and the gain's amplitude. Assumes nothing.
use Rattle.std.proofs.Common.{◌≡◌, w32, Float}
use mir.ValLaws.{to_z-of_z}
use Rattle.float.specs.Clamp.{hundredth_of}
use Rattle.decibels.specs.Amplitude.{eq_amplitude_of}
use Rattle.filters.specs.declared.eq_filter.Coefficients.{Coefficients}
use Rattle.filters.specs.EqFilter.{bell_of, low_shelf_of, high_shelf_of, coefficients_of}
use Rattle.filters.proofs.eq_filter.Coefficients.calculate.Goals as goal
use Rattle.filters.proofs.eq_filter.Coefficients.calculate.Goals.{After-eq_amplitude-a}

settled : (kind_of : Float → Float → Float → Coefficients) (c : After-eq_amplitude-a) → kind_of c.args.g c.at_least_hundredth-q.result c.eq_amplitude-a.result ≡ kind_of c.args.g (hundredth_of c.args.q) (eq_amplitude_of c.args.gain)
settled kind_of c = rw (c.eq_amplitude-a.ensures, c.at_least_hundredth-q.ensures, to_z-of_z w32 c.args.gain c.ranges.gain)

pub returns-in-Bell : goal.returns-in-Bell
unfolding coefficients_of
returns-in-Bell c = rw (c.bell.ensures, c.in-Bell.is) (settled bell_of (goal.at.returns-in-Bell c).After-eq_amplitude-a)

pub returns-in-LowShelf : goal.returns-in-LowShelf
unfolding coefficients_of
returns-in-LowShelf c = rw (c.low_shelf.ensures, c.in-LowShelf.is) (settled low_shelf_of (goal.at.returns-in-LowShelf c).After-eq_amplitude-a)

pub returns-in-HighShelf : goal.returns-in-HighShelf
unfolding coefficients_of
returns-in-HighShelf c = rw (c.high_shelf.ensures, c.in-HighShelf.is) (settled high_shelf_of (goal.at.returns-in-HighShelf c).After-eq_amplitude-a)
