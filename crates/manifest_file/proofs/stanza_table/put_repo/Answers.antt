use Rattle.std.proofs.Common.{◌∷◌, codes, option_map, refl}
use Rattle.toml.specs.View.{view}
use Rattle.manifest_file.specs.Said.{said_stanza}
use Rattle.manifest_file.specs.Sorting.{bearers_by}
use Rattle.manifest_file.specs.Written as spec
use Rattle.manifest_file.proofs.stanza_table.put_repo.Goals as goal

pub returns : goal.returns
returns c =
    let last = spec.last_puts (bearers_by c.args.index.now) (said_stanza c.args.stanza.now) in
    let one = c.in_ok-put_some.ensures last c.requires refl in
    let url = (codes "repo-url", option_map view c.in_ok-url.url) ∷ last in
    let two = c.in_ok-put_some-2.ensures url one refl in
    let subdir = (codes "repo-subdir", option_map view c.in_ok-subdir.subdir) ∷ url in
    rw (← c.in_ok-url.ensures, ← c.in_ok-subdir.ensures, ← c.in_ok-rev.ensures) (c.put_some-3.ensures subdir two refl)
