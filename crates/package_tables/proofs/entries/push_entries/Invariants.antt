-- the entries so far, and the names to come
use Rattle.std.proofs.Common.{◌≡◌, map}
use Rattle.toml.specs.View.{members_view}
use Rattle.toml_view.specs.Reading.{each, mapped}
use Rattle.pkg_world.specs.Each.{onto}
use Rattle.package_tables.specs.Sections as spec
use Rattle.package_tables.proofs.entries.push_entries.Given as goal

abbrev pub invariant-names : goal.invariant-names
invariant-names g l =
    (goal.iterator-names g).can_next l.name-iterator ×
    (goal.iterator-names g).is_finite l.name-iterator ×
    (onto l.initial.entries.items (mapped (map (spec.entry_in l.section)) (each (g.R.Reader.gives l.reader) (members_view l.table.entries)))
    ≡ onto l.entries.items (mapped (map (spec.entry_in l.section)) (each (g.R.Reader.gives l.reader) (members_view l.name-iterator))))
