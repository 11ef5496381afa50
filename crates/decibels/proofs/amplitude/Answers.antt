use Rattle.std.proofs.Common.{refl, sym, ◌∙◌, true≢false}
use Rattle.std.specs.Float.{binary32}
use lib.Ieee.{of_bits, round}
use Rattle.float.specs.Literal.{literal}
use Rattle.decibels.specs.Amplitude.{amplitudes}
use Rattle.decibels.proofs.Places.{amplitude_entry, too_low, found}
use Rattle.decibels.proofs.amplitude.Goals as goal

pub returns-then-db-ltminus59 : goal.returns-then-db-ltminus59
unfolding literal round of_bits
returns-then-db-ltminus59 c = sym (too_low binary32 amplitudes 58 (literal binary32 0 1) c.args.db c.ranges.db c.if-db-ltminus59.true) ∙ amplitude_entry c.args.db

pub returns : goal.returns
unfolding amplitudes of_bits
returns c =
    found binary32 amplitudes 58 (literal binary32 0 1) c.args.db c.ranges.db refl refl (λ h. absurd (true≢false (sym h ∙ c.if-db-ltminus59.false))) c.looked_up.ensures c.map_or.ensures
    ∙ amplitude_entry c.args.db
