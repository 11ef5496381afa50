-- Top stage k is run on its next frame. Each index and each stretch is inside, by where the stage lies (`here`); what the code leaves is the step. Assumes nothing.
use Rattle.std.proofs.Common.{◌≡◌, ap, ◌∙◌, arith, List, ℕ, ◌-◌, ◌≤◌, length, take, drop, length-drop, length-take-le}
use Rattle.chain.specs.Block.{block}
use Rattle.chain.proofs.OneStep.{Located, located, advance_is}
use Rattle.chain.proofs.plan.Plan.advance.Goals as goal
use Rattle.chain.proofs.plan.Plan.advance.Goals.{Start}

-- how long the stretch from a to b is, while it is lent
part_length : {A : Type 0} (a b : ℕ) (xs : List A) → a ≤ b → b ≤ length xs → length (take (b - a) (drop a xs)) ≡ b - a
part_length a b xs h g = length-take-le (b - a) (drop a xs) (omega (arith, length-drop a xs))

here : (c : Start) → Located c.args.self.now.layout.setup c.args.k c.args.self.now.layout.starts c.args.self.now.tops.places (block c.args.samples.now c.args.store.now c.args.outcome.now)
here c = located _ _ _ _ _ c.args.self.now.starts_are (ap (λ t. t.places) c.args.self.now.tops_are) c.requires.ready c.requires.may

pub offset_bounds-self-i : goal.offset_bounds-self-i
offset_bounds-self-i c = omega (arith, here (goal.at.offset_bounds-self-i c).Start, c.well_formed)

pub bounds-self-i : goal.bounds-self-i
bounds-self-i c = omega (arith, here (goal.at.bounds-self-i c).Start, c.well_formed)

pub offset_bounds-self-e : goal.offset_bounds-self-e
offset_bounds-self-e c = omega (arith, here (goal.at.offset_bounds-self-e c).Start, c.well_formed)

pub bounds-self-e : goal.bounds-self-e
bounds-self-e c = omega (arith, here (goal.at.bounds-self-e c).Start, c.well_formed)

pub overflow_mul-p : goal.overflow_mul-p
overflow_mul-p c = omega (arith, here (goal.at.overflow_mul-p c).Start, c.well_formed)

pub overflow_mul-pe : goal.overflow_mul-pe
overflow_mul-pe c = omega (arith, here (goal.at.overflow_mul-pe c).Start, c.well_formed)

pub overflow_mul-f : goal.overflow_mul-f
overflow_mul-f c = omega (arith, here (goal.at.overflow_mul-f c).Start, c.well_formed)

pub overflow_mul-fe : goal.overflow_mul-fe
overflow_mul-fe c = omega (arith, here (goal.at.overflow_mul-fe c).Start, c.well_formed)

pub offset_bounds-store-a : goal.offset_bounds-store-a
offset_bounds-store-a c = omega (arith, here (goal.at.offset_bounds-store-a c).Start, c.well_formed)

pub slice_bounds-process-count : goal.slice_bounds-process-count
slice_bounds-process-count c = omega (arith, here (goal.at.slice_bounds-process-count c).Start, c.well_formed)

pub slice_bounds-process-start : goal.slice_bounds-process-start
slice_bounds-process-start c = omega (arith, here (goal.at.slice_bounds-process-start c).Start, c.well_formed)

pub slice_bounds-process-end : goal.slice_bounds-process-end
slice_bounds-process-end c = omega (arith, here (goal.at.slice_bounds-process-end c).Start, c.well_formed)

pub offset_bounds-outcome-p : goal.offset_bounds-outcome-p
offset_bounds-outcome-p c = omega (arith, here (goal.at.offset_bounds-outcome-p c).Start, c.well_formed)

pub slice_bounds-process-count-2 : goal.slice_bounds-process-count-2
slice_bounds-process-count-2 c = omega (arith, here (goal.at.slice_bounds-process-count-2 c).Start, c.well_formed)

pub slice_bounds-process-start-2 : goal.slice_bounds-process-start-2
slice_bounds-process-start-2 c = omega (arith, here (goal.at.slice_bounds-process-start-2 c).Start, c.well_formed)

pub slice_bounds-process-end-2 : goal.slice_bounds-process-end-2
slice_bounds-process-end-2 c = omega (arith, here (goal.at.slice_bounds-process-end-2 c).Start, c.well_formed)

pub offset_bounds-outcome-f : goal.offset_bounds-outcome-f
offset_bounds-outcome-f c = omega (arith, here (goal.at.offset_bounds-outcome-f c).Start, c.well_formed)

pub slice_bounds-process-count-3 : goal.slice_bounds-process-count-3
slice_bounds-process-count-3 c = omega (arith, here (goal.at.slice_bounds-process-count-3 c).Start, c.well_formed)

pub slice_bounds-process-start-3 : goal.slice_bounds-process-start-3
slice_bounds-process-start-3 c = omega (arith, here (goal.at.slice_bounds-process-start-3 c).Start, c.well_formed)

pub slice_bounds-process-end-3 : goal.slice_bounds-process-end-3
slice_bounds-process-end-3 c = omega (arith, here (goal.at.slice_bounds-process-end-3 c).Start, c.well_formed)

pub returns : goal.returns
returns c =
    let h = here (goal.at.returns c).Start in
    advance_is _ _ c.args.samples.now _ _ _ c.args.outcome.now.progress _ _ _ _ _ _ _ _ h.i_is h.e_is h.a_is h.b_is h.starts_is (omega arith) h.in_samples
    (c.process-y.auto.store ∙ part_length _ _ c.args.store.now (omega (arith, h, c.well_formed)) (omega (arith, h, c.well_formed)))
    (c.process-y.auto.positions ∙ part_length _ _ c.args.outcome.now.memories.positions (omega (arith, h, c.well_formed)) (omega (arith, h, c.well_formed)))
    (c.process-y.auto.floats ∙ part_length _ _ c.args.outcome.now.memories.floats (omega (arith, h, c.well_formed)) (omega (arith, h, c.well_formed)))
    c.process-y.ensures
