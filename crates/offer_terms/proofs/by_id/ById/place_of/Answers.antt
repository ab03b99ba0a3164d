use Rattle.std.proofs.Common.{◌≡◌, Some, None, bytes_eq, map, position, rules, sym, subst}
use Rattle.std.proofs.lemmas.List.Sorted.{answers_always}
use Rattle.offer_terms.specs.ById.{AreRising}
use Rattle.offer_terms.proofs.Searches.{id_hit, id_miss}
use Rattle.offer_terms.proofs.by_id.ById.place_of.Goals as goal

pub returns-in-Ok : goal.returns-in-Ok
returns-in-Ok g c =
    let id = g.T.Identified.id_of in
    let here = c.in-Ok.ensures.position id (answers_always _ _ _ (λ f a r h called. search rules)) in
    let rising = subst (λ xs. AreRising (map id xs)) (sym c.items.ensures.items) c.items.ensures.rising in
    subst (λ xs. Some c.in-Ok.place ≡ position (λ it. bytes_eq c.args.uuid.now (id it)) xs) c.items.ensures.items
    (id_hit id c.args.uuid.now c.items.result.now c.in-Ok.place c.in-Ok.ensures.bound here rising)

pub returns-in-Err : goal.returns-in-Err
returns-in-Err g c =
    let id = g.T.Identified.id_of in
    let gap = c.in-Err.ensures.position id (answers_always _ _ _ (λ f a r h called. search rules)) in
    let rising = subst (λ xs. AreRising (map id xs)) (sym c.items.ensures.items) c.items.ensures.rising in
    subst (λ xs. None ≡ position (λ it. bytes_eq c.args.uuid.now (id it)) xs) c.items.ensures.items
    (id_miss id c.args.uuid.now c.items.result.now _ gap rising)
