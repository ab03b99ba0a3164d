use Rattle.std.proofs.Common.{is_some, sym, ap, ◌∙◌}
use Rattle.offer_terms.specs.Offered.{version_in}
use Rattle.selection_check.proofs.NeedLemmas.{unmarked_if, marked_not}
use Rattle.selection_check.proofs.checking.is_unmarked.Goals as goal

pub returns-then-not-is_set : goal.returns-then-not-is_set
returns-then-not-is_set c =
    let s = c.args.selection.now.items in
    unmarked_if c.args.book.now s c.args.marks.now c.args.package c.packages-count.ensures.once c.requires.known (sym c.is_set.ensures ∙ c.if-not-is_set.true) c.is_selected.result
    (c.is_selected.ensures ∙ ap (λ u. is_some (version_in s u)) c.uuid.ensures)

pub returns-else-not-is_set : goal.returns-else-not-is_set
returns-else-not-is_set c =
    marked_not c.args.book.now c.args.selection.now.items c.args.marks.now c.args.package c.packages-count.ensures.once c.requires.known (sym c.is_set.ensures ∙ c.if-not-is_set.false) c.is_set.result c.if-not-is_set.false
