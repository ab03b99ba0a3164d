use Rattle.std.proofs.Common.{arith, ◌∙◌, ap, length}
use Rattle.std.proofs.lemmas.List.{length-set}
use Rattle.raise_pass.proofs.MarkLemmas.{unmarked-more, unmarked-all, listed-none}
use Rattle.raise_pass.proofs.reaching.begin.Goals as goal

pub loop-p-preserved : goal.loop-p-preserved
loop-p-preserved c =
    let inv = c.loop-p.invariant in
    record {
      each = ap length c.set.ensures ∙ length-set c.loop-p.reached.items c.loop-p.p _ ∙ inv.each;
      none = unmarked-more c.loop-p.reached.items c.set.new.marks.items c.loop-p.p (omega (arith, inv.each)) c.set.ensures inv.none;
    }

pub returns-clause-listed : goal.returns-clause-listed
returns-clause-listed c =
    let inv = c.loop-p.invariant in
    listed-none c.args.instance.now c.loop-p.reached.items _ inv.each (unmarked-all c.loop-p.reached.items c.loop-p.p (omega (arith, inv.each)) inv.none) c.clear.ensures.items

pub returns-clause-none : goal.returns-clause-none
returns-clause-none c =
    let inv = c.loop-p.invariant in
    unmarked-all c.loop-p.reached.items c.loop-p.p (omega (arith, inv.each)) inv.none
