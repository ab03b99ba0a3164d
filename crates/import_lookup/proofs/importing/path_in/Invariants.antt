-- The environments so far have no path for the identity.
use Rattle.std.proofs.Common.{◌≡◌, ◌≤◌, IfSome, drop}
use Rattle.import_lookup.specs.Import.{path_in}
use Rattle.import_lookup.specs.Loading.{loaded_maps}
use Rattle.import_lookup.proofs.importing.path_in.Given as goal

abbrev pub invariant-envs : goal.invariant-envs
invariant-envs g l =
    (g.S.Store.files l.store ≡ g.S.Store.files l.initial.store) ×
    (g.S.Store.read_faults l.initial.store ≤ g.S.Store.read_faults l.store) ×
    (g.S.Store.write_faults l.store ≡ g.S.Store.write_faults l.initial.store) ×
    IfSome (g.S.Store.files l.initial.store) (λ all. path_in all (loaded_maps all l.stack.library) l.stack.envs l.context l.id ≡ path_in all (loaded_maps all l.stack.library) (drop l.env-index l.stack.envs) l.context l.id)
