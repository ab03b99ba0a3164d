-- The book is what the reading of its packages makes.
use Rattle.offer_book.specs.Gathered.{reached_in}
use Rattle.offer_book.specs.Made.{scope_of, reached}
use Rattle.offer_book.proofs.GatherLemmas.{told-whole, told-refused, whole-faults}
use Rattle.offer_book.proofs.gathering.gather.Goals as goal

pub returns-in-Ok-clause-told : goal.returns-in-Ok-clause-told
returns-in-Ok-clause-told g c =
    told-whole _ c.args.catalog.now (scope_of c.args.demand.now) (λ all. reached_in all c.args.catalog.now (scope_of c.args.demand.now) c.args.extra.now.items)
    (reached c.in-Ok.reached) c.bounded.result c.in-Ok.ensures.told c.bounded.ensures.book

pub returns-in-Ok-clause-fault : goal.returns-in-Ok-clause-fault
returns-in-Ok-clause-fault g c = whole-faults c.bounded.result _ _ c.bounded.ensures.whole

pub returns-in-Err-clause-told : goal.returns-in-Err-clause-told
returns-in-Err-clause-told g c =
    told-refused _ c.in-Err.fault c.args.catalog.now (scope_of c.args.demand.now) (λ all. reached_in all c.args.catalog.now (scope_of c.args.demand.now) c.args.extra.now.items) c.in-Err.ensures.told
