-- The fault of a call is the table's: each row's answer has the row's number and place, and the rest is the law of a table. Assumes nothing.
use Rattle.std.proofs.Common.{refl, arith}
use Rattle.theory_tables.proofs.Tables.{by_the_table}
use Rattle.sedhavil.specs.Call.{fault_of, FaultTabled}

pub fault_tabled : FaultTabled
unfolding fault_of
fault_tabled words positions floats progress = by_the_table (omega arith) refl
