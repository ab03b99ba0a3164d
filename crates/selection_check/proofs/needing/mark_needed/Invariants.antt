-- Only needed packages are marked, the roots among them, and what the listed ones so far depend on.
use Rattle.std.proofs.Common.{◌≡◌, ◌<◌, ◌≤◌, true, length, Contains}
use Rattle.std.specs.Vec.{vec_capacity}
use Rattle.offer_terms.specs.Offered.{Text, Id}
use Rattle.offer_terms.specs.Demanded.{wanted}
use Rattle.selection_check.specs.Order.{rank}
use Rattle.selection_check.specs.Needing.{has_mark, AreListed, AreNeeded, AreMet}
use Rattle.selection_check.proofs.needing.mark_needed.Given as goal

abbrev pub invariant-loop-next : goal.invariant-loop-next
invariant-loop-next l = record {
  listed : AreListed (length l.book) l.marks.items l.order.items;
  needed : AreNeeded l.book (wanted l.demand) l.selection.items l.marks.items;
  roots : (e : Text × Id) → Contains l.demand.roots.items e → rank l.book e.1 < length l.book → has_mark l.book l.marks.items e.1 ≡ true;
  met : AreMet l.book l.selection.items l.marks.items l.order.items l.next;
  room : length l.book ≤ vec_capacity l.order;
}
