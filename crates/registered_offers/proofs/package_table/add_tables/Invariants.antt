use Rattle.std.proofs.Common.{◌≡◌, ◌≤◌, IfSome, drop}
use Rattle.pkg_world.specs.Each.{onto}
use Rattle.registered_offers.specs.ListedTables.{tables_in}
use Rattle.registered_offers.proofs.package_table.add_tables.Given as goal

abbrev pub invariant-registries : goal.invariant-registries
invariant-registries g l =
    (g.S.Store.files l.store ≡ g.S.Store.files l.initial.store) ×
    (g.S.Store.read_faults l.initial.store ≤ g.S.Store.read_faults l.store) ×
    (g.S.Store.write_faults l.store ≡ g.S.Store.write_faults l.initial.store) ×
    IfSome (g.S.Store.files l.initial.store) (λ all. onto l.initial.list.items (tables_in all l.registries l.uuid) ≡ onto l.list.items (tables_in all (drop l.registry-index l.registries) l.uuid))
