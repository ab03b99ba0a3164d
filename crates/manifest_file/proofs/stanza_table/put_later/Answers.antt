use Rattle.std.proofs.Common.{◌∷◌, codes, option_map, refl}
use Rattle.toml.specs.View.{view}
use Rattle.manifest_file.specs.Said.{said_stanza}
use Rattle.manifest_file.specs.Sorting.{bearers_by}
use Rattle.manifest_file.specs.Written as spec
use Rattle.manifest_file.proofs.stanza_table.put_later.Goals as goal

pub returns-clause-shown : goal.returns-clause-shown
returns-clause-shown c =
    let repo = spec.repo_puts (bearers_by c.args.index.now) (said_stanza c.args.stanza.now) in
    let one = c.in_ok-put_some.ensures repo c.requires refl in
    let pinned = (codes "pinned", option_map view c.flag_value-pinned.result) ∷ repo in
    let two = c.in_ok-put_some-2.ensures pinned one refl in
    let path = (codes "path", option_map view c.in_ok-path.path) ∷ pinned in
    rw (← c.flag_value-pinned.ensures, ← c.in_ok-path.ensures, ← c.in_ok-tree.ensures.data) (c.put_some-3.ensures path two refl)
