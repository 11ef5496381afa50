-- The answers, each with document 01's number and place. Definitions only.
use Rattle.std.specs.Prelude.{Bool, ℕ, Result, Ok, Err, ⊤}
use Rattle.std.specs.Result.{is_ok}
use Rattle.answer.specs.declared.Refusal.{Refusal}
use Rattle.answer.specs.declared.Refusal.TheVariants.{Rate, Stages, Shape, Setting, Store, Position}
use Rattle.answer.specs.declared.Refusal.TheVariants.{Samples, Frames, Progress, Sample, Entry}

-- what a call answers: accepted, or the first refusal that applies
abbrev pub Answer : Type 0
Answer = Result ⊤ Refusal

-- the answer to a call that is not refused
abbrev pub accepted : Answer
accepted = Ok tt

-- a refusal's number in document 01's table; 0 for an accepted call
abbrev pub number_of : Answer → ℕ
number_of (Ok nothing) = 0
number_of (Err Rate) = 1
number_of (Err Stages) = 2
number_of (Err (Shape at)) = 3
number_of (Err (Setting at)) = 4
number_of (Err (Store needed)) = 5
number_of (Err (Position at)) = 6
number_of (Err Samples) = 7
number_of (Err Frames) = 8
number_of (Err (Progress at)) = 9
number_of (Err (Sample at)) = 10
number_of (Err (Entry at)) = 11

-- the place that document 01's table gives with a refusal; 0 for an accepted call
abbrev pub place_of : Answer → ℕ
place_of (Ok nothing) = 0
place_of (Err Rate) = 0
place_of (Err Stages) = 0
place_of (Err (Shape at)) = at
place_of (Err (Setting at)) = at
place_of (Err (Store needed)) = needed
place_of (Err (Position at)) = at
place_of (Err Samples) = 0
place_of (Err Frames) = 0
place_of (Err (Progress at)) = at
place_of (Err (Sample at)) = at
place_of (Err (Entry at)) = at

-- a call is accepted where its answer is no refusal
abbrev pub accepted_of : Answer → Bool
accepted_of answer = is_ok answer
