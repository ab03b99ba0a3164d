use Rattle.std.proofs.Common.{◌∷◌, [], codes, option_map, refl}
use Rattle.toml.specs.View.{view}
use Rattle.manifest_file.proofs.stanza_table.put_last.Goals as goal

pub returns-clause-shown : goal.returns-clause-shown
returns-clause-shown c =
    let one = c.in_ok-put_some.ensures [] c.requires refl in
    let weak = (codes "weakdeps", option_map view c.in_ok-weakdeps.weakdeps) ∷ [] in
    let two = c.in_ok-put_some-2.ensures weak one refl in
    let version = (codes "version", option_map view c.in_ok-version.version) ∷ weak in
    rw (← c.in_ok-weakdeps.ensures.data, ← c.in_ok-version.ensures.data, ← c.in_ok-uuid.ensures.data) (c.put.ensures version two refl)
