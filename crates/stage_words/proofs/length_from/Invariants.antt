-- The words from n on are 0, so that the length is that of the first n. Assumes nothing.
use Rattle.std.proofs.Common.{◌≡◌}
use Rattle.stage_words.specs.Words.{word_count, length_from}
use Rattle.stage_words.proofs.length_from.Given as goal

abbrev pub invariant-loop-n : goal.invariant-loop-n
invariant-loop-n l = length_from l.words l.at l.n ≡ length_from l.words l.at word_count
