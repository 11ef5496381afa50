-- `Tops::of` meets its contract. The loop's invariant: `i` is the place of top stage n, of which there are at least n, and the entries up to n are written. The measure is what is left of the places. Assumes nothing.
use Rattle.std.proofs.Common.{◌≡◌, ◌-◌, ◌≤◌}
use Rattle.stage.specs.Setup.{used_of}
use Rattle.top_stages.specs.Tops.{top_at, tops_of}
use Rattle.top_stages.proofs.TopStages.{Written}
use Rattle.top_stages.proofs.Tops.of.Given as goal

abbrev pub invariant-loop-i : goal.invariant-loop-i
invariant-loop-i l = record {
  end : l.end ≡ used_of l.setup;
  within : l.i ≤ l.end;
  rises : l.tops.n ≤ l.i;
  there : l.tops.n ≤ tops_of l.setup;
  here : l.i ≡ top_at l.setup l.tops.n;
  written : Written l.setup l.tops.n l.tops.places;
}

abbrev pub decreases-loop-i : goal.decreases-loop-i
decreases-loop-i l = l.end - l.i
