-- The loop's invariant: the starts up to place i stand, and the last of them is at most i times what one stage can have. Assumes nothing.
use Rattle.std.proofs.Common.{◌≡◌, ℕ, ◌+◌, ◌*◌, ◌≤◌, ◌<◌, length, get_or}
use Rattle.reverb_tuning.specs.Tuning.{line_count}
use Rattle.memories.specs.Sizes.{places}
use Rattle.line_layout.specs.Layout.{start_of}
use Rattle.line_layout.proofs.layout.Layout.of.Given as goal

abbrev pub invariant-loop-i : goal.invariant-loop-i
invariant-loop-i l = record {
  full : length l.starts ≡ places + 1;
  stand : (k : ℕ) → k < l.i + 1 → get_or l.starts k 0 ≡ start_of l.fn.setup k;
  below : start_of l.fn.setup l.i ≤ l.i * (line_count * 0x1_0000_0000);
}
