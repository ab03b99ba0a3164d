use Rattle.std.proofs.Common.{subst}
use Rattle.offer_terms.specs.Demanded.{wanted}
use Rattle.selection_check.specs.Order.{id_cmp, FirstOf}
use Rattle.selection_check.specs.Needing.{IsUnmarked}
use Rattle.selection_check.proofs.NeedLemmas.{spare_first}
use Rattle.selection_check.proofs.checking.spare.Goals as goal

pub returns-clause-first : goal.returns-clause-first
returns-clause-first c =
    let book = c.args.book.now in
    let s = c.args.selection.now.items in
    spare_first book (wanted c.args.demand.now) s c.mark_needed.new.marks.items c.unmarked.result c.requires.feasible c.mark_needed.ensures.needed
    (subst (λ m. FirstOf (id_cmp book) (IsUnmarked book s m) c.unmarked.result) c.deref.ensures.value c.unmarked.ensures)
