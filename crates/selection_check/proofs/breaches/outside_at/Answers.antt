use Rattle.std.proofs.Common.{sym, ◌∙◌, subst}
use Rattle.jl_versions.specs.Triple.{triple_of}
use Rattle.offer_terms.specs.Booked.{package_at, book_offers}
use Rattle.selection_check.specs.Order.{id_cmp, FirstOf}
use Rattle.selection_check.specs.Breaches.{Excludes}
use Rattle.selection_check.specs.Found.{first_outside}
use Rattle.selection_check.proofs.TakenFirst.{taken_compat_first}
use Rattle.selection_check.proofs.breaches.outside_at.Goals as goal

pub returns : goal.returns
returns c =
    let book = c.args.book.now in
    let s = c.args.selection.now.items in
    let u = (package_at book c.args.package).uuid in
    let julia = triple_of c.args.julia.now in
    subst (FirstOf (id_cmp book) (Excludes (book_offers book) julia s u))
    (sym (c.outside_of.ensures ∙ (λ i. first_outside book julia s (c.uuid.ensures i) (c.compat_of-entries.ensures i))))
    (taken_compat_first book (book_offers book) julia s u)
