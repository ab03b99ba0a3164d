-- What was found stands, and else the registries are asked.
use Rattle.std.proofs.Common.{◌≡◌, Some, Ok, option_map, sym, ap, subst}
use Rattle.offer_book.specs.AllOffers.{in_registries, or_registries}
use Rattle.offer_book.specs.Made.{scope_of, found_said, IsOfNumber}
use Rattle.offer_book.proofs.SourceLemmas.{told-as, told-of-all}
use Rattle.offer_book.proofs.source.or_registries.Goals as goal

pub returns-in-Some-clause-told : goal.returns-in-Some-clause-told
returns-in-Some-clause-told g c =
    let catalog = c.args.catalog.now in
    let scope = scope_of c.args.demand.now in
    let u = c.args.uuid.now in
    told-of-all _ (λ all. or_registries all catalog scope u (option_map found_said c.args.found) ≡ Ok (Some (found_said c.in-Some.it)))
    (λ all. ap (λ found. or_registries all catalog scope u (option_map found_said found)) c.in-Some.is)

pub returns-in-Some-clause-numbered : goal.returns-in-Some-clause-numbered
returns-in-Some-clause-numbered g c = subst (IsOfNumber c.args.number) c.in-Some.is c.requires

pub returns-in-None-clause-told : goal.returns-in-None-clause-told
returns-in-None-clause-told g c =
    let catalog = c.args.catalog.now in
    let scope = scope_of c.args.demand.now in
    let u = c.args.uuid.now in
    told-as _ (λ all. in_registries all catalog scope u) (λ all. or_registries all catalog scope u (option_map found_said c.args.found)) c.in_registries.result
    (λ all. sym (ap (λ found. or_registries all catalog scope u (option_map found_said found)) c.in-None.is)) c.in_registries.ensures.told
