use Rattle.std.proofs.Common.{◌≡◌, List, get_or, map, ap, ◌∙◌}
use Rattle.manifest_file.specs.Said.{said_stanza}
use Rattle.manifest_file.specs.Saying as manifest
use Rattle.project_changes.specs.Stanzas as spec
use Rattle.project_changes.proofs.Places.{stanza-put}
use Rattle.project_changes.proofs.pinning.without_mark.Goals as goal

pub returns : goal.returns
returns c =
    let whole : List manifest.SaidStanza → manifest.Said = λ stanzas. record { julia_version = c.args.manifest.julia_version; stanzas = stanzas } in
    let items = c.args.manifest.stanzas.items in
    let old = c.index-items-place.result in
    let is : old ≡ get_or items c.args.place old = c.index-items-place.is ∙ ap (λ xs. get_or xs c.args.place old) c.items.ensures in
    ap whole
    (ap (map said_stanza) c.set.ensures.items
    ∙ stanza-put spec.unpinned items c.args.place old c.in_ok-stanza.stanza c.requires (c.in_ok-stanza.ensures ∙ ap (λ s. spec.unpinned (said_stanza s)) is))
