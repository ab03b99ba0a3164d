-- The reading begins with the packages that are mentioned at first, and none of them was read.
use Rattle.std.proofs.Common.{Ok, Err, []}
use Rattle.offer_book.specs.AllOffers.{found_in}
use Rattle.offer_book.specs.Made.{scope_of, reaching}
use Rattle.offer_book.proofs.GatherLemmas.{told-begun}
use Rattle.offer_book.proofs.gathering.reached_in.Goals as goal

pub returns-in-Ok-clause-told : goal.returns-in-Ok-clause-told
returns-in-Ok-clause-told g c =
    told-begun _ (λ all. found_in all c.args.catalog.now (scope_of c.args.demand.now)) _ _ _ (Ok tt) _ c.in_ok-mentions.ensures c.make-book.ensures c.in-Ok.ensures.told

pub returns-in-Err-clause-told : goal.returns-in-Err-clause-told
returns-in-Err-clause-told g c =
    told-begun _ (λ all. found_in all c.args.catalog.now (scope_of c.args.demand.now)) _ _ _ (Err c.in-Err.fault) (reaching [] []) c.in_ok-mentions.ensures c.make-book.ensures c.in-Err.ensures.told
