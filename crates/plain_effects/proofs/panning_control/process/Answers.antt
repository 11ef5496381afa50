use Rattle.plain_effects.specs.PanningControl.{panning_of}
use Rattle.plain_effects.proofs.panning_control.process.Goals as goal

pub returns : goal.returns
unfolding panning_of
returns c = c.panned.ensures
