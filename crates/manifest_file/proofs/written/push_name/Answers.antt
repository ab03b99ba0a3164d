use Rattle.std.proofs.Common.{◌++◌, ◌∷◌, [], map, ap, ◌∙◌}
use Rattle.std.proofs.lemmas.List.{map-append}
use Rattle.toml.specs.View.{view}
use Rattle.manifest_file.proofs.written.push_name.Goals as goal

pub returns : goal.returns
returns c =
    ap (map view) c.in_ok-push.ensures.items ∙ map-append view c.args.list.now.items (c.in_ok-value.value ∷ [])
    ∙ ap (λ d. map view c.args.list.now.items ++ d ∷ []) c.in_ok-value.ensures
