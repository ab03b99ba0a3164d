use Rattle.std.proofs.Common.{arith, subst}
use Rattle.offer_terms.specs.Demanded.{wanted}
use Rattle.selection_check.specs.Needing.{Marks}
use Rattle.selection_check.proofs.NeedLemmas.{roots_needed, the_needed, listed_few}
use Rattle.selection_check.proofs.needing.mark_needed.Goals as goal

pub loop-next-init : goal.loop-next-init
loop-next-init c =
    let book = c.args.book.now in
    let s = c.args.selection.now.items in
    let marks = subst (λ xs. Marks book xs c.begin.new.marks.items c.mark_all.new.marks.items) c.items.ensures.items c.mark_all.ensures.marks in
    record {
      listed = c.mark_all.ensures.listed;
      needed = roots_needed book (wanted c.args.demand.now) s c.begin.new.marks.items c.mark_all.new.marks.items c.begin.ensures.none marks;
      roots = marks.whole;
      met = record { met = λ k x d below. absurd (omega (arith, below)) };
      room = (let a = c.requires.room in let b = c.begin.ensures.room in let d = c.mark_all.ensures.room in omega (arith, a, b, d));
    }

pub returns-then-next-len-clause-needed : goal.returns-then-next-len-clause-needed
returns-then-next-len-clause-needed c =
    let inv = c.loop-next.invariant in
    the_needed c.args.book.now (wanted c.args.demand.now) c.args.selection.now.items c.loop-next.marks.items c.loop-next.order.items c.loop-next.next c.requires.feasible inv.listed inv.needed inv.roots inv.met (omega (arith, c.if-next-len.true, c.len.ensures))

pub returns-clause-needed : goal.returns-clause-needed
returns-clause-needed c =
    let inv = c.loop-next.invariant in
    let few = listed_few _ c.loop-next.marks.items c.loop-next.order.items inv.listed in
    the_needed c.args.book.now (wanted c.args.demand.now) c.args.selection.now.items c.loop-next.marks.items c.loop-next.order.items c.loop-next.next c.requires.feasible inv.listed inv.needed inv.roots inv.met (omega (arith, few, c.loop-next-test.false, c.packages-next-end.ensures.count))
