use Rattle.std.proofs.Common.{◌≡◌, ◌≤◌, IfSome, drop}
use Rattle.registry_tables.specs.Registries.{folders, packed}
use Rattle.registry_tables.proofs.Adding.{Comes}
use Rattle.registry_tables.proofs.depots.add_depots.Given as goal

abbrev pub invariant-depots : goal.invariant-depots
invariant-depots g l =
    (g.S.Store.files l.store ≡ g.S.Store.files l.initial.store) ×
    (g.S.Store.read_faults l.initial.store ≤ g.S.Store.read_faults l.store) ×
    (g.S.Store.write_faults l.store ≡ g.S.Store.write_faults l.initial.store) ×
    IfSome (g.S.Store.files l.initial.store) (λ all. Comes (folders all (drop l.depot-index l.depots)) (packed all (drop l.depot-index l.depots))
    (folders all l.depots) (packed all l.depots) l.initial.found l.found)
