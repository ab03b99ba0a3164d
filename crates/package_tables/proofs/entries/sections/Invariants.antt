-- the entries so far, and the sections to come
use Rattle.std.proofs.Common.{◌≡◌}
use Rattle.toml.specs.View.{members_view}
use Rattle.pkg_world.specs.Each.{onto}
use Rattle.package_tables.specs.Sections as spec
use Rattle.package_tables.proofs.entries.sections.Given as goal

abbrev pub invariant-sections : goal.invariant-sections
invariant-sections g l =
    (goal.iterator-sections g).can_next l.heading-iterator ×
    (goal.iterator-sections g).is_finite l.heading-iterator ×
    (spec.sections_of (g.R.Reader.gives l.reader) (members_view l.table.entries) ≡ onto l.entries.items (spec.sections_of (g.R.Reader.gives l.reader) (members_view l.heading-iterator)))
