-- What was given goes before the registries.
use Rattle.std.proofs.Common.{option_map, ap}
use Rattle.offer_book.specs.AllOffers.{given, or_registries}
use Rattle.offer_book.specs.Made.{scope_of, found_said}
use Rattle.offer_book.proofs.SourceLemmas.{told-as}
use Rattle.offer_book.proofs.source.source_of.Goals as goal

pub returns-in-Ok-clause-told : goal.returns-in-Ok-clause-told
returns-in-Ok-clause-told g c =
    let catalog = c.args.catalog.now in
    let scope = scope_of c.args.demand.now in
    let u = c.args.uuid.now in
    told-as _ (λ all. or_registries all catalog scope u (option_map found_said c.in-Ok.found)) (λ all. or_registries all catalog scope u (given catalog scope u)) c.or_registries.result
    (λ all. ap (or_registries all catalog scope u) c.in-Ok.ensures.given) c.or_registries.ensures.told
