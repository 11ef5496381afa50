use Rattle.std.proofs.Common.{sym, ◌∙◌}
use Rattle.reverb_tuning.proofs.Tunings.{floats_are}
use Rattle.reverb_tuning.proofs.reverb_floats.Goals as goal

pub returns : goal.returns
returns c = c.floats_from.ensures ∙ sym (floats_are c.args.rate)
