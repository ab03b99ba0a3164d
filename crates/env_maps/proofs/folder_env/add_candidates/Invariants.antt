-- What was read so far stands behind what there was.
use Rattle.std.proofs.Common.{◌≡◌, ◌≤◌, IfSome, drop}
use Rattle.pkg_world.specs.Each.{onto}
use Rattle.env_maps.specs.Candidates.{candidates_in}
use Rattle.env_maps.proofs.folder_env.add_candidates.Given as goal

abbrev pub invariant-names : goal.invariant-names
invariant-names g l =
    (g.S.Store.files l.store ≡ g.S.Store.files l.initial.store) ×
    (g.S.Store.read_faults l.initial.store ≤ g.S.Store.read_faults l.store) ×
    (g.S.Store.write_faults l.store ≡ g.S.Store.write_faults l.initial.store) ×
    IfSome (g.S.Store.files l.initial.store) (λ all. onto l.initial.found.items (candidates_in all l.folder l.names) ≡ onto l.found.items (candidates_in all l.folder (drop l.name-index l.names)))
