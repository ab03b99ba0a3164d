use Rattle.std.proofs.Common.{arith, sym, subst}
use Rattle.offer_terms.specs.Booked.{book_offers}
use Rattle.selection_check.specs.Order.{id_cmp, IsFirst, FirstOf}
use Rattle.selection_check.specs.Breaches.{LacksOffer}
use Rattle.selection_check.proofs.Numbers.{first_number, offer_first}
use Rattle.selection_check.proofs.breaches.missing_offer.Goals as goal

pub returns-then-lacks_offer : goal.returns-then-lacks_offer
returns-then-lacks_offer c =
    let book = c.args.book.now in
    let s = c.args.selection.now.items in
    subst (IsFirst (id_cmp book) (LacksOffer (book_offers book) s)) (sym c.uuid.ensures)
    (first_number book c.packages-package-end.ensures.once c.loop-package.package (omega (arith, c.loop-package-test.true, c.packages-package-end.ensures.count)) (LacksOffer (book_offers book) s) c.loop-package.invariant c.if-lacks_offer.ensures)

pub returns : goal.returns
returns c =
    let book = c.args.book.now in
    let s = c.args.selection.now.items in
    subst (FirstOf (id_cmp book) (LacksOffer (book_offers book) s)) (sym c.unknown.ensures)
    (offer_first book s (λ q below. c.loop-package.invariant q (omega (arith, below, c.loop-package-test.false, c.packages-package-end.ensures.count))))
