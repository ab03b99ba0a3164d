use Rattle.std.proofs.Common.{◌≡◌, sym, ap, ◌∙◌, find, option_map}
use Rattle.std.specs.Str.{bytes_eq}
use Rattle.offer_terms.specs.Demanded.{fixed_said}
use Rattle.offer_catalog.proofs.FixedFound.{fixed-found}
use Rattle.offer_catalog.proofs.manifest_selection.fixed_version.Goals as goal

pub returns-in-Some : goal.returns-in-Some
returns-in-Some c =
    let id = c.args.uuid.now in
    ap (λ o. option_map (λ it. it.version) (option_map fixed_said o)) c.in-Some.ensures
    ∙ ap (option_map (λ it. it.version)) (sym (fixed-found id c.fixed-list.result.now.items) ∙ ap (find (λ it. bytes_eq id it.uuid)) c.fixed-list.ensures)

pub returns-in-None : goal.returns-in-None
returns-in-None c =
    let id = c.args.uuid.now in
    ap (λ o. option_map (λ it. it.version) (option_map fixed_said o)) c.in-None.ensures
    ∙ ap (option_map (λ it. it.version)) (sym (fixed-found id c.fixed-list.result.now.items) ∙ ap (find (λ it. bytes_eq id it.uuid)) c.fixed-list.ensures)
