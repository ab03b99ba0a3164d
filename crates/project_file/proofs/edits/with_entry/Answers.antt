-- The list with the entry is in the order of the names.
use Rattle.std.proofs.Common.{◌≡◌, [], ◌∷◌, ◌++◌, ◌∙◌, ap, sym}
use Rattle.std.proofs.lemmas.List.{append_assoc}
use Rattle.pkg_world.specs.ByName.{is_by_name}
use Rattle.project_file.specs.Edits.{with_entry}
use Rattle.project_file.proofs.NamePlaces.{by_name-with_entry}
use Rattle.project_file.proofs.edits.with_entry.Goals as goal

pub of-requires : goal.of-requires
of-requires c =
    let before = c.around.result.0.now in
    let after = c.around.result.1.now in
    let front : c.copy_pairs.new.made.items ≡ before = c.in_ok-copy_pairs.ensures ∙ ap (λ es. es ++ before) c.make-made.ensures.items in
    let with_it : c.push.new.self.items ≡ before ++ (c.args.name.now, c.args.uuid) ∷ [] = c.in_ok-push.ensures.ok ∙ (λ i. front i ++ (c.in_ok-copy.ensures i, c.args.uuid) ∷ []) in
    let whole : c.copy_pairs-2.new.made.items ≡ with_entry c.args.name.now c.args.uuid c.args.pairs.now
    = c.in_ok-copy_pairs-2.ensures ∙ ap (λ es. es ++ after) with_it ∙ append_assoc before ((c.args.name.now, c.args.uuid) ∷ []) after ∙ sym (c.around.ensures c.args.uuid) in
    ap is_by_name whole ∙ by_name-with_entry c.args.name.now c.args.uuid c.args.pairs.now c.requires
