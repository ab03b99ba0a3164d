use Rattle.offer_terms.specs.Booked.{book_offers}
use Rattle.offer_terms.specs.Demanded.{wanted}
use Rattle.selection_check.proofs.Exits.{valid, at_spare}
use Rattle.selection_check.proofs.checking.check.Goals as goal

pub returns-in-Some-spare-clause-verdict : goal.returns-in-Some-spare-clause-verdict
returns-in-Some-spare-clause-verdict c = at_spare c.args.book.now (wanted c.args.demand.now) c.args.selection.now.items c.in-Some-spare.uuid c.in_default.ensures c.in-Some-spare.ensures.first

pub returns-clause-verdict : goal.returns-clause-verdict
returns-clause-verdict c = valid (book_offers c.args.book.now) (wanted c.args.demand.now) c.args.selection.now.items c.in_default.ensures c.in-None.ensures.first
