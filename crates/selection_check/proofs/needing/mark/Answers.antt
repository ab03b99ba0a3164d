use Rattle.std.proofs.Common.{sym, ◌∙◌, ap}
use Rattle.selection_check.specs.Needing.{is_marked}
use Rattle.selection_check.proofs.NeedLemmas.{room_left, listed_more, grows_more, grows_none, marked_set, marked_same}
use Rattle.selection_check.proofs.needing.mark.Goals as goal

pub append-requires : goal.append-requires
append-requires c = room_left _ c.args.marks.now.items c.args.order.now.items c.args.package _ c.requires.listed c.requires.known (ap (λ m. is_marked m c.args.package) (sym c.as_slice.ensures.value) ∙ sym c.is_set.ensures ∙ c.if-is_set.false) c.requires.room

pub returns-clause-listed : goal.returns-clause-listed
returns-clause-listed c = listed_more _ c.args.marks.now.items _ c.args.order.now.items _ c.args.package c.requires.listed c.requires.known (ap (λ m. is_marked m c.args.package) (sym c.as_slice.ensures.value) ∙ sym c.is_set.ensures ∙ c.if-is_set.false) c.set.ensures c.append.ensures.items

pub returns-clause-grows : goal.returns-clause-grows
returns-clause-grows c = grows_more c.args.marks.now.items _ c.args.order.now.items _ c.args.package c.requires.known c.set.ensures c.append.ensures.items

pub returns-clause-marks : goal.returns-clause-marks
returns-clause-marks c = λ q. ap (λ m. is_marked m q) c.set.ensures ∙ marked_set c.args.marks.now.items c.args.package c.requires.known q

pub returns-then-is_set-clause-marks : goal.returns-then-is_set-clause-marks
returns-then-is_set-clause-marks c = λ q. marked_same c.args.marks.now.items c.args.package q (ap (λ m. is_marked m c.args.package) (sym c.as_slice.ensures.value) ∙ sym c.is_set.ensures ∙ c.if-is_set.true)

pub returns-then-is_set-clause-grows : goal.returns-then-is_set-clause-grows
returns-then-is_set-clause-grows c = grows_none c.args.marks.now.items c.args.order.now.items
