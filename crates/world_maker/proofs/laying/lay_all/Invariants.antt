-- the files so far
use Rattle.std.proofs.Common.{map, take}
use Rattle.pkg_world.specs.Held.{sure_files}
use Rattle.world_maker.specs.Laid.{file_of, HasExactly}
use Rattle.world_maker.proofs.laying.lay_all.Given as goal

abbrev pub invariant-files : goal.invariant-files
invariant-files l = HasExactly (take l.file-index (map file_of l.files)) (sure_files l.store)
