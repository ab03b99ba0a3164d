-- The store holds folders alone.
use Rattle.pkg_world.specs.Held.{sure_files}
use Rattle.worked_cases.specs.Folders.{HasNoFile}
use Rattle.worked_cases.proofs.world.sure_folders.Given as goal

abbrev pub invariant-folders : goal.invariant-folders
invariant-folders l = HasNoFile (sure_files l.store)
