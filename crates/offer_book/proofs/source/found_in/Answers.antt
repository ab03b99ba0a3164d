-- Julia and the project's own package have no source.
use Rattle.std.proofs.Common.{◌≡◌, true, false, cond, None, Ok, sym, ap, ◌∙◌}
use Rattle.offer_catalog.specs.Selected.{counts}
use Rattle.offer_book.specs.AllOffers.{given, or_registries, found_in}
use Rattle.offer_book.specs.Made.{scope_of}
use Rattle.offer_book.proofs.SourceLemmas.{told-as, told-of-all}
use Rattle.offer_book.proofs.source.found_in.Goals as goal

pub returns-then-counts-clause-told : goal.returns-then-counts-clause-told
returns-then-counts-clause-told g c =
    let catalog = c.args.catalog.now in
    let scope = scope_of c.args.demand.now in
    let u = c.args.uuid.now in
    let may : counts scope.own u ≡ true = ap (λ own. counts own u) (sym c.own_of.ensures) ∙ sym c.counts.ensures ∙ c.if-counts.true in
    told-as _ (λ all. or_registries all catalog scope u (given catalog scope u)) (λ all. found_in all catalog scope u) c.source_of.result
    (λ all. sym (ap (λ b. cond b (or_registries all catalog scope u (given catalog scope u)) (Ok None)) may)) c.source_of.ensures.told

pub returns-else-counts-clause-told : goal.returns-else-counts-clause-told
returns-else-counts-clause-told g c =
    let catalog = c.args.catalog.now in
    let scope = scope_of c.args.demand.now in
    let u = c.args.uuid.now in
    let may : counts scope.own u ≡ false = ap (λ own. counts own u) (sym c.own_of.ensures) ∙ sym c.counts.ensures ∙ c.if-counts.false in
    told-of-all _ (λ all. found_in all catalog scope u ≡ Ok None) (λ all. ap (λ b. cond b (or_registries all catalog scope u (given catalog scope u)) (Ok None)) may)
