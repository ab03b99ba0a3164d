use Rattle.std.proofs.Common.{arith, get_or, refl}
use Rattle.version_graph.proofs.RowLemmas.{count-le}
use Rattle.raise_pass.proofs.ReachLemmas.{root-reached, reached-more, met-more, reached-set}
use Rattle.raise_pass.proofs.reaching.find_reached.Goals as goal

pub loop-root-preserved : goal.loop-root-preserved
loop-root-preserved c =
    let inv = c.loop-root.invariant in
    let g = c.args.instance.now in
    let roots = c.args.roots.now in
    let p = get_or roots c.loop-root.root-index 0 in
    record {
      listed = c.mark.ensures.listed;
      reached = reached-more g c.args.chosen.now c.loop-root.reached.items _ p inv.reached (root-reached g _ p (c.requires.roots.sound c.loop-root.root-index (omega arith))) c.mark.ensures.marks;
      room = (let a = inv.room in let b = c.mark.ensures.room in omega (arith, a, b));
      met = met-more c.loop-root.reached.items _ roots c.loop-root.root-index p refl c.mark.ensures.marks inv.met;
    }

pub returns-then-next-len-clause-reached : goal.returns-then-next-len-clause-reached
returns-then-next-len-clause-reached c =
    let inv = c.loop-next.invariant in
    reached-set c.args.instance.now c.args.chosen.now c.args.roots.now c.loop-next.reached.items c.loop-next.order.items c.loop-next.next c.requires.roots inv.met inv.listed inv.reached inv.spread (omega arith)

pub returns-clause-reached : goal.returns-clause-reached
returns-clause-reached c =
    let inv = c.loop-next.invariant in
    reached-set c.args.instance.now c.args.chosen.now c.args.roots.now c.loop-next.reached.items c.loop-next.order.items c.loop-next.next c.requires.roots inv.met inv.listed inv.reached inv.spread (omega (arith, inv.listed.each, inv.listed.counted, count-le c.loop-next.reached.items))
