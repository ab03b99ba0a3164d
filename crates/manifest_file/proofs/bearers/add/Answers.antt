use Rattle.std.proofs.Common.{Some, unwrap_or, if◌then◌else◌, ap, ◌∙◌, string_bytes}
use Rattle.std.specs.Str.{bytes_eq}
use Rattle.std.specs.BTreeMap.{get_by_text}
use Rattle.std.proofs.lemmas.Map.Text.{btree_map_updates_text}
use Rattle.manifest_file.specs.Sorting.{bearers_by}
use Rattle.manifest_file.specs.declared.bearers.Bearers.TheVariants.{Nobody}
use Rattle.manifest_file.proofs.Walks.{found_or}
use Rattle.manifest_file.proofs.bearers.add.Goals as goal

pub returns : goal.returns
returns c = λ q.
    ap (λ o. unwrap_or o Nobody) (btree_map_updates_text (string_bytes c.in_ok-key.key) c.args.index.now c.insert.new.self (Some c.args.bearers) c.in_ok-insert.ensures.updates q)
    ∙ found_or (bytes_eq (string_bytes c.in_ok-key.key) q) c.args.bearers (get_by_text c.args.index.now q)
    ∙ ap (λ name. if bytes_eq name q then c.args.bearers else bearers_by c.args.index.now q) c.in_ok-key.ensures.ok
