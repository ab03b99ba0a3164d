use Rattle.std.proofs.Common.{◌≡◌, []}
use Rattle.toml.specs.View.{members_view}
use Rattle.pkg_world.specs.Each.{onto}
use Rattle.registry_tables.specs.Registry.{packages_of_members}
use Rattle.registry_tables.proofs.registry.read_packages.Given as goal

abbrev pub invariant-members : goal.invariant-members
invariant-members l =
    goal.iterator-members.can_next l.key-iterator ×
    goal.iterator-members.is_finite l.key-iterator ×
    (packages_of_members l.path.folder [] (members_view l.table.entries) ≡ onto l.list (packages_of_members l.path.folder l.list (members_view l.key-iterator)))
