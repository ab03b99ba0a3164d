-- The book has what was found of the package.
use Rattle.std.proofs.Common.{option_map}
use Rattle.offer_book.specs.AllOffers.{found_in}
use Rattle.offer_book.specs.Made.{scope_of, found_said}
use Rattle.offer_book.proofs.GatherLemmas.{told-packed, packed-refused}
use Rattle.offer_book.proofs.StepLemmas.{one-more}
use Rattle.offer_book.proofs.gathering.enter_next.Goals as goal

pub returns-in_ok-enter-in-Ok-clause-told : goal.returns-in_ok-enter-in-Ok-clause-told
returns-in_ok-enter-in-Ok-clause-told g c =
    told-packed _ (λ all. found_in all c.args.catalog.now (scope_of c.args.demand.now) c.args.uuid) (c.args.uuid, c.args.name.now) c.args.book.now _
    (option_map found_said c.in-Ok.found) c.in-Ok.ensures.told c.in_ok-enter-in-Ok.ensures

pub returns-in_ok-enter-in-Ok-clause-one : goal.returns-in_ok-enter-in-Ok-clause-one
returns-in_ok-enter-in-Ok-clause-one g c = one-more c.args.book.now _ (c.args.uuid, c.args.name.now) (option_map found_said c.in-Ok.found) c.in_ok-enter-in-Ok.ensures

pub returns-in-Err-clause-told : goal.returns-in-Err-clause-told
returns-in-Err-clause-told g c =
    packed-refused _ c.in-Err.fault (λ all. found_in all c.args.catalog.now (scope_of c.args.demand.now) c.args.uuid) (c.args.uuid, c.args.name.now) c.args.book.now c.in-Err.ensures.told
