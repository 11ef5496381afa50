-- What a stage of each kind has besides its settings: stages that it owns, and lines. Definitions only.
use Rattle.std.specs.Prelude.{ℕ}
use Rattle.stage.specs.declared.kind.Stage.{Stage}
use Rattle.stage.specs.declared.kind.Stage.TheVariants.{VolumeControl, PanningControl, Distortion}
use Rattle.stage.specs.declared.kind.Stage.TheVariants.{Filter, EqFilter, Reverb, Delay}
use Rattle.stage.specs.declared.kind.Lines.{Lines}
use Rattle.stage.specs.declared.kind.Lines.TheVariants.{NoLines, ReverbLines, FrameLine}
use Rattle.stage.specs.declared.kind.Holding.{Holding}

-- a stage owns the first `owned` of the stages after it, and has these lines
abbrev pub holding : ℕ → Lines → Holding
holding owned lines = record { owned = owned; lines = lines }

-- what each kind has: only a reverb and a delay have lines, and only a delay owns stages
unfoldable pub holding_of : Stage → Holding
holding_of (VolumeControl volume) = holding 0 NoLines
holding_of (PanningControl panning) = holding 0 NoLines
holding_of (Distortion kind drive mix) = holding 0 NoLines
holding_of (Filter mode g resonance mix) = holding 0 NoLines
holding_of (EqFilter kind g gain q) = holding 0 NoLines
holding_of (Reverb feedback damping width mix) = holding 0 ReverbLines
holding_of (Delay frames feedback mix owned) = holding owned (FrameLine frames)

-- how many of the stages after it a stage owns, nested ones counted
abbrev pub owned_of : Stage → ℕ
owned_of stage = (holding_of stage).owned
