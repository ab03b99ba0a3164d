use Rattle.std.proofs.Common.{◌≡◌, ◌≤◌, IfSome, drop}
use Rattle.pkg_world.specs.Each.{onto}
use Rattle.registered_offers.specs.ListedTables.{registries_in}
use Rattle.registered_offers.proofs.loaded_registry.add_registries.Given as goal

abbrev pub invariant-folders : goal.invariant-folders
invariant-folders g l =
    (g.S.Store.files l.store ≡ g.S.Store.files l.initial.store) ×
    (g.S.Store.read_faults l.initial.store ≤ g.S.Store.read_faults l.store) ×
    (g.S.Store.write_faults l.store ≡ g.S.Store.write_faults l.initial.store) ×
    IfSome (g.S.Store.files l.initial.store) (λ all. onto l.initial.list.items (registries_in all l.folders) ≡ onto l.list.items (registries_in all (drop l.folder-index l.folders)))
