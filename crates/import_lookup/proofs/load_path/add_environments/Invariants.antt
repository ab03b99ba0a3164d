-- What was read so far stands behind what there was.
use Rattle.std.proofs.Common.{◌≡◌, ◌≤◌, IfSome, drop}
use Rattle.pkg_world.specs.Each.{onto, read_each}
use Rattle.import_lookup.specs.LoadPath.{environment_of}
use Rattle.import_lookup.proofs.load_path.add_environments.Given as goal

abbrev pub invariant-texts : goal.invariant-texts
invariant-texts g l =
    (g.S.Store.files l.store ≡ g.S.Store.files l.initial.store) ×
    (g.S.Store.read_faults l.initial.store ≤ g.S.Store.read_faults l.store) ×
    (g.S.Store.write_faults l.store ≡ g.S.Store.write_faults l.initial.store) ×
    IfSome (g.S.Store.files l.initial.store) (λ all. onto l.initial.list.items (read_each (environment_of all l.place) l.texts) ≡ onto l.list.items (read_each (environment_of all l.place) (drop l.text-index l.texts)))
