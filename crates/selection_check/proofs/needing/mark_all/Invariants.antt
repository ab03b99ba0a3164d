-- The packages of the identifiers so far are marked.
use Rattle.std.proofs.Common.{◌≤◌, length}
use Rattle.std.specs.Vec.{vec_capacity}
use Rattle.selection_check.specs.Needing.{AreListed, Grows}
use Rattle.selection_check.proofs.NeedLemmas.{MarksFirst}
use Rattle.selection_check.proofs.needing.mark_all.Given as goal

abbrev pub invariant-loop-id : goal.invariant-loop-id
invariant-loop-id l = record {
  listed : AreListed (length l.book) l.marks.items l.order.items;
  first : MarksFirst l.book l.ids l.initial.marks.items l.marks.items l.id-index;
  grows : Grows l.initial.marks.items l.marks.items l.initial.order.items l.order.items;
  room : vec_capacity l.initial.order ≤ vec_capacity l.order;
}
