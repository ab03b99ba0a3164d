use Rattle.std.proofs.Common.{sym, ◌∙◌, subst}
use Rattle.offer_terms.specs.Booked.{package_at, book_offers}
use Rattle.selection_check.specs.Order.{id_cmp, FirstOf}
use Rattle.selection_check.specs.Breaches.{LacksDep}
use Rattle.selection_check.specs.Found.{first_lacking_other}
use Rattle.selection_check.proofs.TakenFirst.{taken_deps_first}
use Rattle.selection_check.proofs.breaches.missing_dep_at.Goals as goal

pub returns : goal.returns
returns c =
    let book = c.args.book.now in
    let s = c.args.selection.now.items in
    let u = (package_at book c.args.package).uuid in
    subst (FirstOf (id_cmp book) (LacksDep (book_offers book) s u))
    (sym (c.missing_dep_of.ensures ∙ (λ i. first_lacking_other book s (c.uuid.ensures i) (c.deps_of-deps.ensures i))))
    (taken_deps_first book (book_offers book) s u)
