use Rattle.std.proofs.Common.{arith, subst}
use Rattle.offer_terms.specs.Offered.{taken}
use Rattle.offer_terms.specs.Booked.{package_at, book_offers}
use Rattle.selection_check.specs.Found.{compat_in}
use Rattle.selection_check.specs.Opening.{Narrows, IsWithinOffer}
use Rattle.selection_check.proofs.OpenLemmas.{selected_more}
use Rattle.selection_check.proofs.opening.shut_selected.Goals as goal

pub loop-package-preserved : goal.loop-package-preserved
loop-package-preserved c =
    let book = c.args.book.now in
    let s = c.args.selection.now.items in
    let p = c.loop-package.package in
    let table = c.loop-package.table in
    let new = c.shut_others.new.table in
    record {
      narrows = selected_more book s c.args.table.now table new p (omega (arith, c.loop-package-test.true, c.packages-package-end.ensures.count)) c.loop-package.invariant.narrows
          (subst (λ u. Narrows book table new (IsWithinOffer u (compat_in (taken (book_offers book) s (package_at book p).uuid)))) c.uuid.ensures
          (subst (λ xs. Narrows book table new (IsWithinOffer c.uuid.result xs)) c.compat_of-entries.ensures c.shut_others.ensures.narrows));
      made = c.shut_others.ensures.made;
    }
