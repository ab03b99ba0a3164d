-- What was read so far stands behind what there was.
use Rattle.std.proofs.Common.{◌≡◌, ◌≤◌, IfSome, drop}
use Rattle.pkg_world.specs.Each.{onto}
use Rattle.env_maps.specs.Library.{library_in}
use Rattle.env_maps.proofs.library.add_libraries.Given as goal

abbrev pub invariant-names : goal.invariant-names
invariant-names g l =
    (g.S.Store.files l.store ≡ g.S.Store.files l.initial.store) ×
    (g.S.Store.read_faults l.initial.store ≤ g.S.Store.read_faults l.store) ×
    (g.S.Store.write_faults l.store ≡ g.S.Store.write_faults l.initial.store) ×
    IfSome (g.S.Store.files l.initial.store) (λ all. onto l.initial.found.items (library_in all l.stdlib l.names) ≡ onto l.found.items (library_in all l.stdlib (drop l.name-index l.names)))
