use Rattle.std.proofs.Common.{arith, ◌∙◌, ap, length}
use Rattle.std.proofs.lemmas.List.{length-set}
use Rattle.selection_check.proofs.NeedLemmas.{unmarked_more, unmarked_all, listed_none}
use Rattle.selection_check.proofs.needing.begin.Goals as goal

pub loop-package-preserved : goal.loop-package-preserved
loop-package-preserved c =
    let inv = c.loop-package.invariant in
    record {
      each = ap length c.set.ensures ∙ length-set c.loop-package.marks.items c.loop-package.package _ ∙ inv.each;
      none = unmarked_more c.loop-package.marks.items c.set.new.marks.items c.loop-package.package (omega (arith, inv.each)) c.set.ensures inv.none;
    }

pub returns-clause-listed : goal.returns-clause-listed
returns-clause-listed c =
    let inv = c.loop-package.invariant in
    listed_none _ c.loop-package.marks.items _ inv.each (unmarked_all c.loop-package.marks.items c.loop-package.package (omega (arith, inv.each)) inv.none) c.clear.ensures.items

pub returns-clause-none : goal.returns-clause-none
returns-clause-none c =
    let inv = c.loop-package.invariant in
    unmarked_all c.loop-package.marks.items c.loop-package.package (omega (arith, inv.each)) inv.none
