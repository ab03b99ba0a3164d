use Rattle.std.proofs.Common.{rules, ◌≡◌, ◌∷◌, [], Some, codes, map, option_map, subst, refl}
use Rattle.toml.specs.Data.{no_members}
use Rattle.toml.specs.View.{view, table_view}
use Rattle.manifest_file.specs.Said.{said_stanza}
use Rattle.manifest_file.specs.Sorting.{bearers_by}
use Rattle.manifest_file.specs.Written.{stanzas_data}
use Rattle.manifest_file.specs.ReadsBack.{StanzasBack}
use Rattle.manifest_file.proofs.manifest.Manifest.table_by.Goals as goal

pub returns-clause-written : goal.returns-clause-written
returns-clause-written c =
    let empty : table_view c.new-table.result ≡ no_members = search rules in
    let one = c.in_ok-put.ensures [] empty refl in
    let format = (codes "manifest_format", Some (view c.in_ok-format.format)) ∷ [] in
    let two = c.in_ok-put_some.ensures format one refl in
    let julia = (codes "julia_version", option_map view c.in_ok-julia.julia) ∷ format in
    let stanzas : view c.in_ok-stanzas.stanzas ≡ stanzas_data (bearers_by c.args.index.now) (map said_stanza c.args.self.now.stanzas.items) = rw (← c.items.ensures) c.in_ok-stanzas.ensures.data in
    rw (← stanzas, ← c.in_ok-julia.ensures.data, ← c.in_ok-format.ensures) (c.in_ok-put-2.ensures julia two refl)

pub returns-clause-stanzas : goal.returns-clause-stanzas
returns-clause-stanzas c = subst (λ ss. StanzasBack (bearers_by c.args.index.now) (map said_stanza ss)) c.items.ensures c.in_ok-stanzas.ensures.back
