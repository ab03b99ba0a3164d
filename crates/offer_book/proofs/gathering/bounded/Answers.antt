-- A root without a source is refused before the limit.
use Rattle.offer_book.specs.Gathered.{unknown_root}
use Rattle.offer_book.specs.Made.{scope_of, reached}
use Rattle.offer_book.proofs.GatherLemmas.{root-unknown, roots-known, known-roots}
use Rattle.offer_book.proofs.gathering.bounded.Goals as goal

pub returns-in-Some-clause-book : goal.returns-in-Some-clause-book
returns-in-Some-clause-book c = root-unknown (reached c.args.reached) (unknown_root c.args.catalog.now (scope_of c.args.demand.now)) c.in-Some.uuid c.in-Some.ensures

pub returns-in-None-clause-book : goal.returns-in-None-clause-book
returns-in-None-clause-book c =
    known-roots (reached c.args.reached) (unknown_root c.args.catalog.now (scope_of c.args.demand.now)) c.within_limit.result
    (roots-known (unknown_root c.args.catalog.now (scope_of c.args.demand.now)) c.in-None.ensures) c.within_limit.ensures.book
