-- What is read of a header is the table's: each row's answer has the row's number, and the rest is the law of a table. Assumes nothing.
use Rattle.std.proofs.Common.{refl, arith}
use Rattle.theory_tables.proofs.Tables.{by_the_table}
use Rattle.wav_header.specs.Header.{header_of, HeaderTabled}

pub header_tabled : HeaderTabled
unfolding header_of
header_tabled bytes highest = by_the_table (omega arith) refl
