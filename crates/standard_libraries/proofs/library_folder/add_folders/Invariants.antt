-- What was read so far stands behind what there was.
use Rattle.std.proofs.Common.{◌≡◌, ◌≤◌, IfSome, drop}
use Rattle.pkg_world.specs.Each.{onto}
use Rattle.standard_libraries.specs.Libraries.{folders_read}
use Rattle.standard_libraries.proofs.library_folder.add_folders.Given as goal

abbrev pub invariant-folders : goal.invariant-folders
invariant-folders g l =
    (g.S.Store.files l.store ≡ g.S.Store.files l.initial.store) ×
    (g.S.Store.read_faults l.initial.store ≤ g.S.Store.read_faults l.store) ×
    (g.S.Store.write_faults l.store ≡ g.S.Store.write_faults l.initial.store) ×
    IfSome (g.S.Store.files l.initial.store) (λ all. onto l.initial.found.items (folders_read all l.julia l.folders) ≡ onto l.found.items (folders_read all l.julia (drop l.folder-index l.folders)))
