-- A call is accepted exactly where its answer has number 0. Assumes nothing.
use Rattle.std.proofs.Common.{◌≡◌, refl, eqb, Ok, Err}
use Rattle.answer.specs.declared.Refusal.TheVariants.{Rate, Stages, Shape, Setting, Store, Position}
use Rattle.answer.specs.declared.Refusal.TheVariants.{Samples, Frames, Progress, Sample, Entry}
use Rattle.answer.specs.Answer.{Answer, number_of, accepted_of}

pub accepted_numbered : (answer : Answer) → accepted_of answer ≡ eqb (number_of answer) 0
accepted_numbered (Ok nothing) = refl
accepted_numbered (Err Rate) = refl
accepted_numbered (Err Stages) = refl
accepted_numbered (Err (Shape at)) = refl
accepted_numbered (Err (Setting at)) = refl
accepted_numbered (Err (Store needed)) = refl
accepted_numbered (Err (Position at)) = refl
accepted_numbered (Err Samples) = refl
accepted_numbered (Err Frames) = refl
accepted_numbered (Err (Progress at)) = refl
accepted_numbered (Err (Sample at)) = refl
accepted_numbered (Err (Entry at)) = refl
