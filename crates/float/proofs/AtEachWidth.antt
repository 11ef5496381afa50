-- The one outcome of each function for every width, at f32 and at f64: what it asks of the width (`Known`) holds at both. Assumes nothing.
use denote.Builtin.{f32, f64, u32, u64}
use Rattle.float.specs.contracts.floating.F32Floating.TheImpl as single
use Rattle.float.specs.contracts.floating.F64Floating.TheImpl as double
use Rattle.float.proofs.Outcome.{Single, known_itself}
use Rattle.float.proofs.OneOutcome.{to_bits_single, from_bits_single, clamp_unit_single, is_finite_single}
use Rattle.float.proofs.bits as bits
use Rattle.float.proofs.clamp as clamp
use Rattle.float.proofs.finite as finite

pub to_bits_f32_single : (k l m n o p q r s t u v w : _) → Single (bits.to_bits.Reads.Post f32 u32 k l m n single.ghosts o p q r s t u v w)
to_bits_f32_single k l m n o p q r s t u v w = to_bits_single f32 u32 k l m n single.ghosts o p q r s t u v w known_itself

pub to_bits_f64_single : (k l m n o p q r s t u v w : _) → Single (bits.to_bits.Reads.Post f64 u64 k l m n double.ghosts o p q r s t u v w)
to_bits_f64_single k l m n o p q r s t u v w = to_bits_single f64 u64 k l m n double.ghosts o p q r s t u v w known_itself

pub from_bits_f32_single : (k l m n o p q r s t u v w : _) → Single (bits.from_bits.Reads.Post f32 u32 k l m n single.ghosts o p q r s t u v w)
from_bits_f32_single k l m n o p q r s t u v w = from_bits_single f32 u32 k l m n single.ghosts o p q r s t u v w known_itself

pub from_bits_f64_single : (k l m n o p q r s t u v w : _) → Single (bits.from_bits.Reads.Post f64 u64 k l m n double.ghosts o p q r s t u v w)
from_bits_f64_single k l m n o p q r s t u v w = from_bits_single f64 u64 k l m n double.ghosts o p q r s t u v w known_itself

pub clamp_unit_f32_single : (k l m n o p q r s t u v w : _) → Single (clamp.clamp_unit.Reads.Post f32 u32 k l m n single.ghosts o p q r s t u v w)
clamp_unit_f32_single k l m n o p q r s t u v w = clamp_unit_single f32 u32 k l m n single.ghosts o p q r s t u v w known_itself

pub clamp_unit_f64_single : (k l m n o p q r s t u v w : _) → Single (clamp.clamp_unit.Reads.Post f64 u64 k l m n double.ghosts o p q r s t u v w)
clamp_unit_f64_single k l m n o p q r s t u v w = clamp_unit_single f64 u64 k l m n double.ghosts o p q r s t u v w known_itself

pub is_finite_f32_single : (k l m n o p q r s t u v w : _) → Single (finite.is_finite.Reads.Post f32 u32 k l m n single.ghosts o p q r s t u v w)
is_finite_f32_single k l m n o p q r s t u v w = is_finite_single f32 u32 k l m n single.ghosts o p q r s t u v w

pub is_finite_f64_single : (k l m n o p q r s t u v w : _) → Single (finite.is_finite.Reads.Post f64 u64 k l m n double.ghosts o p q r s t u v w)
is_finite_f64_single k l m n o p q r s t u v w = is_finite_single f64 u64 k l m n double.ghosts o p q r s t u v w
