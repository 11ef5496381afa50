-- The three demands, in the user's words, each closed by the name of its proof. The statements are definitions: of crate `stage` (specs/Added.antt); of crate `chain` (specs/Table.antt, specs/Demands.antt, specs/Past.antt), about what its public functions answer and leave; of crate `theory_refusals` (specs/TopStages.antt); of crate `theory_whole_steps` (specs/WholeSteps.antt), about what an accepted step is; those of square root and narrowing are of crate `theory_nearest` (specs/Ieee754.antt, specs/Nearest.antt), and those of amplitudes of crate `decibels` (specs/Power.antt). Assumes nothing.
use Rattle.std.proofs.Common.{ℕ, Bool, ℤ, pos, negsuc, ◌≤ℤ◌, Float}
use Rattle.std.specs.Float.{Format, binary32, binary64}
use Rattle.theory_nearest.specs.Nearest.{Nearest, TheNearest}
use Rattle.theory_nearest.specs.Ieee754.{SquareRoot, Narrowing}
use Rattle.rounding.specs.Root.{sqrt_of}
use Rattle.rounding.specs.Narrow.{narrow_of}
use Rattle.theory_nearest.proofs.Evidence as Evidence
use Rattle.theory_nearest.proofs.Ieee754 as Ieee754
use Rattle.decibels.specs.Amplitude.{amplitude_of, eq_amplitude_of}
use Rattle.decibels.specs.Power.{NearestPower}
use Rattle.decibels.proofs.AmplitudeRules as Tables
use Rattle.chain.specs.Table.{AnswersTabled, RenderUnchanged, StartsTabled}
use Rattle.chain.specs.Demands.{StepByStep, EntriesDecide, StepsKeepApart, StepsStandAlone, AnyOrder, WholeFrames, CutAnywhere, RenderCutAnywhere, RenderIsRun}
use Rattle.chain.specs.Past.{PastStays}
use Rattle.stage.specs.Added.{StagesAdded}
use Rattle.stage.proofs.Added as Added
use Rattle.theory_refusals.specs.TopStages.{TopStagesHaveDepth0}
use Rattle.theory_refusals.proofs.TopStages as TopStages
use Rattle.theory_whole_steps.specs.WholeSteps.{EffectsStand, StepsWhole, AmplitudesKnown}
use Rattle.theory_whole_steps.proofs.WholeMet as WholeMet
use Rattle.chain.proofs.TableMet as TableMet
use Rattle.chain.proofs.DemandsMet as DemandsMet
use Rattle.chain.proofs.CutMet as CutMet
use Rattle.chain.proofs.PastMet as PastMet

-- 1. "Any rate, settings, samples, memories, line store, progress and step order may be passed in. What meets none of document 01's eleven refusals is rendered. A refusal comes exactly under its condition, gives its number and place, and changes no sample, line, memory or progress."
pub demand_1 : AnswersTabled
demand_1 = TableMet.answers_tabled

pub demand_1_render : RenderUnchanged
demand_1_render = TableMet.render_unchanged

-- document 01: "Progress is counted entry by entry for check 11": an order is accepted exactly where an empty one is and each entry may be run, once the steps before it are taken
pub demand_1_entries : EntriesDecide
demand_1_entries = DemandsMet.entries_decide

-- document 01: "A fresh start makes checks 1 to 5, then clears the needed floats; it takes no memories and gives them at zero, refused or not."
pub demand_1_start : StartsTabled
demand_1_start = TableMet.starts_tabled

-- document 01: "Stages stand in one list, at most 16": a stage that is added stands at its end, and where no place is left the list is one that is refused
pub demand_1_added : StagesAdded
demand_1_added = Added.stages_added

-- document 01: "Top stages have depth 0", and a delay "owns the stages after it, as many as it says, nested ones counted"
pub demand_1_top_stages : TopStagesHaveDepth0
demand_1_top_stages = TopStages.top_stages

-- "What meets none of document 01's eleven refusals is rendered": the stages of an accepted call are effects with all of their lines and all of the effects inside them
pub demand_1_effects : EffectsStand
demand_1_effects = WholeMet.effects_stand

-- 2. "Each accepted step gives the Rust's bits": an accepted order is its single steps, and each is the step of the definitions
pub demand_2 : StepByStep
demand_2 = DemandsMet.step_by_step

-- and that step is one frame through one of these effects, as kira processes it, so nothing that the definitions say for other calls comes into it. That an effect makes of a frame what the Rust makes of it is compared by running the Rust (compare/)
pub demand_2_whole : StepsWhole
demand_2_whole = WholeMet.steps_whole

-- "the Rust being fed our amplitudes": each is one of those proved below
pub demand_2_amplitudes_known : AmplitudesKnown
demand_2_amplitudes_known = WholeMet.amplitudes_known

-- "Square root and narrowing are proved against IEEE 754"
pub demand_2_root : (f : Format) → SquareRoot f (sqrt_of f)
demand_2_root = Ieee754.square_root

pub demand_2_narrowing : (f : Format) → Narrowing f (narrow_of f)
demand_2_narrowing = Ieee754.narrowing

-- "amplitudes against the nearest float to the power of ten"
pub demand_2_amplitude : (z : ℤ) → negsuc 58 ≤ℤ z → z ≤ℤ pos 24 → NearestPower binary32 20 z (amplitude_of z)
demand_2_amplitude = Tables.amplitude_rule

pub demand_2_eq_amplitude : (z : ℤ) → negsuc 23 ≤ℤ z → z ≤ℤ pos 24 → NearestPower binary64 40 z (eq_amplitude_of z)
demand_2_eq_amplitude = Tables.eq_amplitude_rule

-- there is one nearest value to a real number: so each amplitude is the only one
pub demand_2_only : (f : Format) (s : Bool) (j n d : ℕ) (y : Float) → Nearest f s j n d y → TheNearest f s j n d y
demand_2_only = Evidence.the_nearest

-- 3. "A step runs one stage on its next frame, never ahead of the stage before it."
pub demand_3_step : StepsKeepApart
demand_3_step = DemandsMet.steps_keep_apart

-- document 01: "Floats past the last line never change": whatever order is run, rendered, started or refused
pub demand_3_past : PastStays
demand_3_past = PastMet.past_stays

-- "and a step's answer doesn't depend on them or on lines of stages it doesn't run"
pub demand_3_alone : StepsStandAlone
demand_3_alone = DemandsMet.steps_stand_alone

-- "From equal rate, settings, samples, lines, memories and progress, any two accepted orders that name each stage equally often leave all of these equal."
pub demand_3_any_order : AnyOrder
demand_3_any_order = DemandsMet.any_order

-- "An order that brings every stage from nothing to the last frame leaves what demand 2's rendering, whole frame after whole frame, leaves."
pub demand_3_whole_frames : WholeFrames
demand_3_whole_frames = DemandsMet.whole_frames_lem

-- "Cutting an accepted, unstarted block at any frame and running each part to its end leaves the output, lines and memories that running it whole to its end leaves."
pub demand_3_cut : CutAnywhere
demand_3_cut = CutMet.cut_anywhere

-- and so it is with `render`, where no order is given
pub demand_3_render_cut : RenderCutAnywhere
demand_3_render_cut = CutMet.render_cut_anywhere

-- and `render` leaves what every such order leaves
pub render_is_run : RenderIsRun
render_is_run = DemandsMet.render_is_run
