use Rattle.std.proofs.Common.{sym, subst}
use Rattle.offer_terms.specs.Kept.{AreNumbered, DoRise}
use Rattle.offer_terms.proofs.book.Book.offers.Goals as goal

pub returns-clause-numbered : goal.returns-clause-numbered
returns-clause-numbered c = subst (AreNumbered c.args.package) (sym c.items.ensures) (c.self.invariant.numbered c.args.package _ (sym c.in-Some.ensures.entry))

pub returns-clause-rising : goal.returns-clause-rising
returns-clause-rising c = subst DoRise (sym c.items.ensures) (c.self.invariant.rising c.args.package _ (sym c.in-Some.ensures.entry))
