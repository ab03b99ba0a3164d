use Rattle.std.proofs.Common.{◌≡◌, length, get_or, bytes_eq, refl, sym, ap, ◌∙◌}
use Rattle.std.proofs.lemmas.Option.{slice_get_read}
use Rattle.offer_terms.proofs.Finds.{position_within, find_there, find_nowhere}
use Rattle.offer_terms.proofs.by_id.ById.get.Goals as goal

pub returns-in-Some : goal.returns-in-Some
returns-in-Some g c =
    let xs = c.args.self.now.items in
    let at : c.index-items-place.result ≡ get_or xs c.in-Some.place c.index-items-place.result =
    c.index-items-place.is ∙ ap (λ ys. get_or ys c.in-Some.place c.index-items-place.result) c.items.ensures.items in
    let inside = position_within (λ it. bytes_eq c.args.uuid.now (g.T.Identified.id_of it)) xs c.in-Some.place c.in-Some.ensures in
    sym (find_there (λ it. bytes_eq c.args.uuid.now (g.T.Identified.id_of it)) xs c.in-Some.place c.in-Some.ensures
    ∙ slice_get_read xs (length xs) c.in-Some.place c.index-items-place.result refl inside at)

pub returns-in-None : goal.returns-in-None
returns-in-None g c = sym (find_nowhere (λ it. bytes_eq c.args.uuid.now (g.T.Identified.id_of it)) c.args.self.now.items c.in-None.ensures)
