-- What a stage of each kind makes of a frame, and how a frame goes through stages one after another, each on its own
-- stretch of what they hold. Definitions only.
use Rattle.std.specs.Prelude.{cond, ◌&&◌, List, ℕ, zero, suc, ◌+◌, ◌*◌, ◌-◌, ltb, leb, ℤ, get_or, set, Float}
use Rattle.decibels.specs.Amplitude.{amplitude_of}
use Rattle.frame.specs.declared.Frame.{Frame}
use Rattle.frame.specs.Operations.{add_of, mul_of}
use Rattle.frame.specs.Mix.{mix_of}
use Rattle.integrators.specs.declared.Integrators.{Integrators}
use Rattle.integrators.specs.declared.Filtered.{Filtered}
use Rattle.plain_effects.specs.VolumeControl.{volume_of}
use Rattle.plain_effects.specs.PanningControl.{panning_of}
use Rattle.plain_effects.specs.Distortion.{distortion_of}
use Rattle.filters.specs.Filter.{filter_of}
use Rattle.filters.specs.EqFilter.{eq_of}
use Rattle.line.specs.Held.{holds, joined, Ran, ran}
use Rattle.line.specs.Position.{next_position}
use Rattle.line.specs.Frames.{frame_at, frame_in}
use Rattle.reverb.specs.Reverb.{reverb_of}
use Rattle.memories.specs.Sizes.{places}
use Rattle.memories.specs.Kinds.{remembered, remember}
use Rattle.memories.specs.Places.{front_places, back_places}
use Rattle.stage.specs.declared.kind.Stage.{Stage}
use Rattle.stage.specs.declared.kind.Stage.TheVariants.{VolumeControl, PanningControl, Distortion, Filter, EqFilter}
use Rattle.stage.specs.declared.kind.Stage.TheVariants.{Reverb, Delay}
use Rattle.stage.specs.declared.setup.Setup.{Setup}
use Rattle.stage.specs.Setup.{stage_at, next_place}
use Rattle.line_layout.specs.Layout.{size_of}

-- ---- a stage of each kind

-- a filter or an EQ: from the two frames that it remembers and its input, f makes its output and the two frames that it
-- remembers from then on, which stand among the floats
unfoldable pub remembering : (Integrators → Frame → Filtered) → Ran → Ran
remembering f r =
    let h = r.held in
    let done = f (remembered h.floats) r.frame in
    ran done.output (holds h.store h.positions (remember done.after h.floats))

-- a delay: "take the oldest frame, run it through the feedback stages, multiply by the feedback amplitude: this is the
-- wet frame. Store input plus wet. Mix wet with input". The front of what it holds is its own, a line and the memories
-- of one place; `inner`, its feedback stages, have the rest
unfoldable pub delay_stage : ℕ → ℤ → Float → (Ran → Ran) → Ran → Ran
delay_stage frames feedback mix inner r =
    let own = front_places (2 * frames) 1 r.held in
    let rest = back_places (2 * frames) 1 r.held in
    let at = get_or own.positions 0 0 in
    let fed = inner (ran (frame_at at own.store) rest) in
    let wet = mul_of fed.frame (amplitude_of feedback) in
    ran (mix_of wet r.frame mix)
    (joined
    (holds (frame_in at (add_of r.frame wet) own.store) (set own.positions 0 (next_position at frames))
    own.floats)
    fed.held)

-- a stage of any kind at a rate; `inner` are the feedback stages, which only a delay has
unfoldable pub stage_step : ℕ → (Ran → Ran) → Stage → Ran → Ran
unfolding remembering delay_stage
stage_step rate inner (VolumeControl volume) r = ran (volume_of volume r.frame) r.held
stage_step rate inner (PanningControl panning) r = ran (panning_of panning r.frame) r.held
stage_step rate inner (Distortion kind drive mix) r = ran (distortion_of kind drive mix r.frame) r.held
stage_step rate inner (Filter mode g resonance mix) r = remembering (filter_of mode g resonance mix) r
stage_step rate inner (EqFilter kind g gain q) r = remembering (eq_of kind g q gain) r
stage_step rate inner (Reverb feedback damping width mix) r = reverb_of rate feedback damping width mix r
stage_step rate inner (Delay frames feedback mix owned) r = delay_stage frames feedback mix inner r

-- ---- stages one after another

-- f and then g: f has the front of what they hold, `lines` floats of the store and the memories of n places, and g has
-- the rest
unfoldable pub in_turn : ℕ → ℕ → (Ran → Ran) → (Ran → Ran) → Ran → Ran
in_turn lines n f g r =
    let a = f (ran r.frame (front_places lines n r.held)) in
    let b = g (ran a.frame (back_places lines n r.held)) in
    ran b.frame (joined a.held b.held)

-- the stages at list places i to e - 1, in turn. At depth 0 the frame comes back, and feedback stages have one depth
-- less. `starts` says where lines start. n only bounds the recursion: the number of these stages is enough
unfoldable pub span_of : ℕ → ℕ → Setup → List ℕ → ℕ → ℕ → Ran → Ran
unfolding stage_step in_turn
span_of zero depth setup starts i e r = r
span_of (suc n) zero setup starts i e r = r
span_of (suc n) (suc depth) setup starts i e r =
    let next = next_place (stage_at setup i) i e in
    cond (ltb i e)
    (in_turn (size_of starts i next) (next - i)
    (stage_step setup.rate (span_of n depth setup starts (i + 1) next) (stage_at setup i))
    (span_of n (suc depth) setup starts next e)
    r)
    r

-- the stage at list place i, whose feedback stages, at i + 1 to e - 1, have this depth and this n (`span_of`)
unfoldable pub step_of : ℕ → ℕ → Setup → List ℕ → ℕ → ℕ → Ran → Ran
unfolding stage_step span_of
step_of n depth setup starts i e r = stage_step setup.rate (span_of n depth setup starts (i + 1) e) (stage_at setup i) r

-- a step of the stage at list place i, whose feedback stages are at i + 1 to e - 1; they are run three deep at most.
-- Where i is not before e, or e is above 16, the frame comes back and nothing changes
unfoldable pub process_at : Setup → List ℕ → ℕ → ℕ → Ran → Ran
unfolding step_of
process_at setup starts i e r = cond (ltb i e && leb e places) (step_of places 3 setup starts i e r) r
