use Rattle.std.proofs.Common.{true, ◌∙◌}
use Rattle.std.proofs.lemmas.List.Folds.{list_any_more}
use Rattle.std.proofs.lemmas.Map.Text.{btree_set_updates_text}
use Rattle.std.specs.Str.{bytes_eq}
use Rattle.pkg_world.specs.Path.{path_text}
use Rattle.depot_hash.proofs.Entering.{cond_or}
use Rattle.depot_hash.proofs.folders.texts_of.Goals as goal

pub loop-path-preserved : goal.loop-path-preserved
loop-path-preserved c = λ name.
    let text = c.in_ok-from_str.ensures.ok ∙ c.as_str.ensures.text in
    let after = btree_set_updates_text _ c.loop-path.texts c.insert.new.self true c.in_ok-insert.ensures.updates name in
    let more = list_any_more (λ path. bytes_eq (path_text path) name) c.items-path-items.result.now c.loop-path.path-index c.path-item.result c.loop-path-test.true in
    rw (after, more, ← c.path-item.is, text, c.loop-path.invariant name) (cond_or (bytes_eq (path_text c.path-item.result) name) _)
