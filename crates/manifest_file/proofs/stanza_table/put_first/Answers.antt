use Rattle.std.proofs.Common.{◌∷◌, codes, option_map, refl}
use Rattle.toml.specs.View.{view}
use Rattle.manifest_file.specs.Said.{said_stanza}
use Rattle.manifest_file.specs.Sorting.{bearers_by}
use Rattle.manifest_file.specs.Written as spec
use Rattle.manifest_file.proofs.stanza_table.put_first.Goals as goal

pub returns-clause-shown : goal.returns-clause-shown
returns-clause-shown c =
    let later = spec.later_puts (bearers_by c.args.index.now) (said_stanza c.args.stanza.now) in
    let one = c.in_ok-put_some.ensures later c.requires refl in
    let extensions = (codes "extensions", option_map view c.in_ok-extensions.extensions) ∷ later in
    rw (← c.in_ok-extensions.ensures, ← c.in_ok-deps.ensures.data) (c.put_some-2.ensures extensions one refl)
