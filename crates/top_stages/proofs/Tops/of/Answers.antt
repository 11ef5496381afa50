-- `Tops::of` meets its contract. Each step of the loop writes one entry more, and at its end all are written. Assumes nothing.
use Rattle.std.proofs.Common.{◌≡◌, refl, ap, sym, ◌∙◌, ◌+◌, ◌<◌, arith}
use lib.ListN.{get_or-replicate}
use Rattle.memories.specs.Sizes.{places}
use Rattle.stage.specs.Setup.{next_place}
use Rattle.top_stages.specs.Tops.{tops_of}
use Rattle.top_stages.proofs.TopStages.{top_zero, top_more, tops_more, tops_are, written_more, written_all}
use Rattle.top_stages.proofs.Tops.of.Goals as goal

pub loop-i-init : goal.loop-i-init
loop-i-init c =
    let p = c.args.setup in
    record {
      end = c.used-end.ensures;
      within = omega arith;
      rises = omega arith;
      there = omega arith;
      here = sym (top_zero p);
      written = record {
        full = refl;
        stands = λ k h. let e : k ≡ 0 = omega arith in rw e (sym (top_zero p));
        beyond = λ k h g. get_or-replicate (places + 1) k 0 0 h;
      };
    }

pub loop-i-preserved : goal.loop-i-preserved
loop-i-preserved c =
    let p = c.args.setup in
    let at = c.loop-i in
    let inv = at.invariant in
    let n = at.tops.n in
    let next = c.next_place-i.ensures.0 ∙ ap (next_place _ at.i) inv.end ∙ top_more p n at.i inv.here in
    let more : n < tops_of p = tops_more p n (omega arith) inv.there (omega arith) in
    record {
      end = inv.end;
      within = c.next_place-i.ensures.1;
      rises = omega (arith, c.next_place-i.ensures.2 (omega arith));
      there = omega arith;
      here = next;
      written = written_more p n _ at.tops.places (omega arith) inv.written next;
    }

pub returns : goal.returns
returns c =
    let p = c.args.setup in
    let at = c.loop-i in
    let all : at.tops.n ≡ tops_of p = tops_are p at.tops.n at.invariant.there (omega arith) in
    written_all p at.tops.n at.tops.places at.invariant.written all
