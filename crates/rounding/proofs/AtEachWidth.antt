-- The one outcome of each function for every width, at f32 and at f64: what it asks of the width (`Known`) holds at both. Assumes nothing.
use denote.Builtin.{f32, f64, u32, u64}
use Rattle.float.specs.contracts.floating.F32Floating.TheImpl as single
use Rattle.float.specs.contracts.floating.F64Floating.TheImpl as double
use Rattle.float.proofs.Outcome.{Single, known_itself}
use Rattle.rounding.proofs.OneOutcome.{sqrt_single}
use Rattle.rounding.proofs.sqrt as sqrt

pub sqrt_f32_single : (k l m n o p q r s t u v w : _) → Single (sqrt.sqrt.Reads.Post f32 u32 k l m n single.ghosts o p q r s t u v w)
sqrt_f32_single k l m n o p q r s t u v w = sqrt_single f32 u32 k l m n single.ghosts o p q r s t u v w known_itself

pub sqrt_f64_single : (k l m n o p q r s t u v w : _) → Single (sqrt.sqrt.Reads.Post f64 u64 k l m n double.ghosts o p q r s t u v w)
sqrt_f64_single k l m n o p q r s t u v w = sqrt_single f64 u64 k l m n double.ghosts o p q r s t u v w known_itself
