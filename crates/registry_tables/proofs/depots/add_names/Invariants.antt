use Rattle.std.proofs.Common.{◌≡◌, ◌≤◌, IfSome, filter, drop}
use Rattle.registry_tables.specs.Registries.{is_registry, is_packed, children}
use Rattle.registry_tables.proofs.Adding.{Comes}
use Rattle.registry_tables.proofs.depots.add_names.Given as goal

abbrev pub invariant-names : goal.invariant-names
invariant-names g l =
    (g.S.Store.files l.store ≡ g.S.Store.files l.initial.store) ×
    (g.S.Store.read_faults l.initial.store ≤ g.S.Store.read_faults l.store) ×
    (g.S.Store.write_faults l.store ≡ g.S.Store.write_faults l.initial.store) ×
    IfSome (g.S.Store.files l.initial.store) (λ all. Comes
    (filter (is_registry all) (children l.folder (drop l.name-index l.names))) (filter (is_packed all) (children l.folder (drop l.name-index l.names)))
    (filter (is_registry all) (children l.folder l.names)) (filter (is_packed all) (children l.folder l.names)) l.initial.found l.found)
