use Rattle.std.proofs.Common.{refl, ◌∙◌}
use Rattle.std.specs.Float.{nan, binary64}
use lib.Ieee.{of_bits}
use Rattle.decibels.specs.Amplitude.{eq_amplitudes}
use Rattle.decibels.proofs.Places.{eq_amplitude_entry, found}
use Rattle.decibels.proofs.eq_amplitude.Goals as goal

pub returns : goal.returns
unfolding eq_amplitudes of_bits
returns c = found binary64 eq_amplitudes 23 nan c.args.gain c.ranges.gain refl refl (λ h. refl) c.looked_up.ensures c.map_or.ensures ∙ eq_amplitude_entry c.args.gain
