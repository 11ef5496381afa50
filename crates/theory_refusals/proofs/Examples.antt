-- The edges of document 01's table of refusals, worked out by antt on the definition that the contracts cite. Assumes nothing.
use Rattle.std.proofs.Common.{◌≡◌, refl, false, List, [], ◌∷◌, ℕ, ◌-◌, arith, lt-ltb, le-leb, pos, length, replicate, Float, Err}
use lib.Ieee.{fin, le}
use Rattle.float.specs.Literal.{literal}
use Rattle.float.specs.Finite.{finite_of}
use Rattle.theory_tables.specs.First.{first_from}
use Rattle.reverb_tuning.specs.Tuning.{reverb_lines}
use Rattle.memories.specs.Sizes.{places, all_positions}
use Rattle.stage.specs.declared.kind.Stage.{Stage}
use Rattle.stage.specs.declared.kind.Stage.TheVariants.{VolumeControl, Reverb, Delay}
use Rattle.stage.specs.declared.setup.Setup.{Setup}
use Rattle.stage.specs.Holding.{holding_of}
use Rattle.stage.specs.Setup.{empty_setup, with_stage, next_place}
use Rattle.stage.specs.Range.{in_range_of}
use Rattle.line_layout.specs.Lines.{floats_of}
use Rattle.line_layout.specs.Layout.{start_of}
use Rattle.answer.specs.Answer.{number_of, place_of}
use Rattle.top_stages.specs.Tops.{tops_of}
use Rattle.refusals.specs.Shape.{faulty, depth_of}
use Rattle.order_entries.specs.declared.Rule.TheVariants.{NoStage, AtEnd, Level}
use Rattle.order_entries.specs.Entries.{unbroken, rule_of, stuck}
use Rattle.refusals.specs.Refusals.{answer_of}

-- the chain with these stages more, at its end
abbrev pub extended : Setup → List Stage → Setup
extended setup [] = setup
extended setup (s ∷ l) = extended (with_stage setup s) l

-- these stages at this rate, in a list of 16 places
abbrev pub listed : ℕ → List Stage → Setup
listed rate l = extended (empty_setup rate) l

-- what a call answers, as its number and place: of some stages and floats, from positions and progress of zero
abbrev pub told : ℕ → List Stage → ℕ → List Float → List ℕ → List ℕ
told rate l floats samples order =
    let answer = answer_of (listed rate l) floats samples (replicate all_positions 0) (replicate places 0) order in
    number_of answer ∷ place_of answer ∷ []

abbrev pub given : ℕ → ℕ → List ℕ
given number place = number ∷ place ∷ []

abbrev pub accepted : List ℕ
accepted = given 0 0

abbrev pub zero32 : Float
zero32 = fin false 0 (pos 0)

abbrev pub volume : Stage
volume = VolumeControl (pos 0)

abbrev pub reverb : Stage
reverb = Reverb zero32 zero32 zero32 zero32

abbrev pub delay : ℕ → ℕ → Stage
delay frames owned = Delay frames (pos 0) zero32 owned

-- ---- "no stages, no frames and an empty order are all accepted"; with no stages any entry is refused
abbrev pub none : ℕ → List ℕ → List ℕ
none rate order = told rate [] 0 [] order

pub none_accepted : none 48000 [] ≡ accepted
unfolding answer_of empty_setup first_from start_of tops_of
none_accepted = refl

pub none_entry : (k : ℕ) (ks : List ℕ) → none 48000 (k ∷ ks) ≡ given 11 0
unfolding answer_of empty_setup first_from start_of tops_of stuck
none_entry k ks = rw (le-leb 0 k (omega arith), lt-ltb 0 (length (k ∷ ks)) (omega arith))

-- ---- "rate 7,999 and 192,001 refused, 8,000 and 192,000 taken"
pub rate_7999 : none 7999 [] ≡ given 1 0
unfolding answer_of empty_setup
rate_7999 = refl

pub rate_192001 : none 192001 [] ≡ given 1 0
unfolding answer_of empty_setup
rate_192001 = refl

pub rate_8000 : none 8000 [] ≡ accepted
unfolding answer_of empty_setup first_from start_of tops_of
rate_8000 = refl

pub rate_192000 : none 192000 [] ≡ accepted
unfolding answer_of empty_setup first_from start_of tops_of
rate_192000 = refl

-- ---- "one reverb at 44,100 needs 25,450 floats: 25,449 gives refusal 5 with place 25,450"
pub reverb_25449 : told 44100 (reverb ∷ []) 25449 [] [] ≡ given 5 25450
unfolding answer_of empty_setup with_stage faulty depth_of first_from in_range_of literal le finite_of start_of floats_of reverb_lines
reverb_25449 = refl

pub reverb_25450 : told 44100 (reverb ∷ []) 25450 [] [] ≡ accepted
unfolding answer_of empty_setup with_stage faulty depth_of first_from in_range_of literal le finite_of start_of floats_of reverb_lines tops_of next_place
reverb_25450 = refl

-- ---- a wrong shape: owned stages that no list can have; and a depth of 4, where 3 is taken
pub owned_most : told 44100 (delay 1 18446744073709551615 ∷ []) 2 [] [] ≡ given 3 0
unfolding answer_of empty_setup with_stage faulty holding_of first_from
owned_most = refl

pub depth_3 : told 44100 (delay 1 3 ∷ delay 1 2 ∷ delay 1 1 ∷ volume ∷ []) 6 [] [] ≡ accepted
unfolding answer_of empty_setup with_stage faulty depth_of first_from in_range_of start_of floats_of tops_of next_place finite_of
depth_3 = refl

pub depth_4 : told 44100 (delay 1 4 ∷ delay 1 3 ∷ delay 1 2 ∷ delay 1 1 ∷ volume ∷ []) 8 [] [] ≡ given 3 4
unfolding answer_of empty_setup with_stage faulty depth_of holding_of first_from
depth_4 = refl

-- ---- which rule an entry breaks, of two top stages and one frame; the first, where it breaks two
-- the progress of two top stages, in a list of 16 places
abbrev pub progress : ℕ → ℕ → List ℕ
progress a b = a ∷ b ∷ replicate (places - 2) 0

pub rule_no_stage : rule_of 2 1 (progress 0 0) 2 ≡ Err NoStage
unfolding rule_of
rule_no_stage = refl

pub rule_at_end : rule_of 2 1 (progress 1 1) 0 ≡ Err AtEnd
unfolding rule_of
rule_at_end = refl

pub rule_level : rule_of 2 1 (progress 0 0) 1 ≡ Err Level
unfolding rule_of
rule_level = refl

pub rule_unbroken : rule_of 2 1 (progress 1 0) 1 ≡ unbroken
unfolding rule_of
rule_unbroken = refl

pub rule_no_stage_first : rule_of 2 0 (progress 0 0) 2 ≡ Err NoStage
unfolding rule_of
rule_no_stage_first = refl

pub rule_at_end_first : rule_of 2 1 (progress 1 1) 1 ≡ Err AtEnd
unfolding rule_of
rule_at_end_first = refl
