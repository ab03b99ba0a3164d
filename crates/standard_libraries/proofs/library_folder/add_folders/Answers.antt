use Rattle.std.proofs.Common.{◌∙◌, arith}
use Rattle.pkg_world.proofs.Each.{rest-step, each-next}
use Rattle.project_places.proofs.Each.{each-stops}
use Rattle.standard_libraries.specs.Libraries.{folder_read}
use Rattle.standard_libraries.proofs.library_folder.add_folders.Goals as goal

pub folders-preserved : goal.folders-preserved
folders-preserved g c =
    let (same, later, other, comes) = c.folders.invariant in
    let next = rest-step c.args.folders.now c.folders.folder-index c.folder-item.result c.folders-test.true c.folder-item.is in (
      c.add_folder.ensures.files ∙ same,
      omega (arith, later, c.add_folder.ensures.later),
      c.add_folder.ensures.other ∙ other,
      each-next _ (λ all. folder_read all c.args.julia.now) c.folder-item.result c.args.folders.now _ _ _ _ _ next comes (rw same at c.in-Ok.ensures.told),
    )

pub returns-in-Err-clause-told : goal.returns-in-Err-clause-told
returns-in-Err-clause-told g c =
    let (same, later, other, comes) = c.folders.invariant in
    let next = rest-step c.args.folders.now c.folders.folder-index c.folder-item.result c.folders-test.true c.folder-item.is in
    each-stops _ (λ all. folder_read all c.args.julia.now) c.folder-item.result c.args.folders.now _ _ _ _ c.in-Err.fault next comes (rw same at c.in-Err.ensures.told)
