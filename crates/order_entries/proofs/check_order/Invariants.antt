-- `check_order` meets its contract. The loop's invariant: so many entries are read and counted, and none of them is stuck (proofs/Counting.antt). The measure is what is unread. Assumes nothing.
use Rattle.std.proofs.Common.{◌≡◌, length}
use Rattle.memories.specs.Sizes.{places}
use Rattle.order_entries.proofs.Counting.{Counted}
use Rattle.order_entries.proofs.check_order.Given as goal

abbrev pub invariant-loop-k : goal.invariant-loop-k
invariant-loop-k l = (length l.counted ≡ places) × Counted l.tops l.frames l.progress l.order l.counted l.unread

abbrev pub decreases-loop-k : goal.decreases-loop-k
decreases-loop-k l = length l.unread
