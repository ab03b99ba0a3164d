-- Files among which there are folders alone: a further folder has room at every path.
use Rattle.std.specs.Prelude.{Option, Some, None}
use Rattle.pkg_world.specs.Tree.{Node, file, folder, Files, no_files, entry}

abbrev pub HasNoFile : Files → Type 0
HasNoFile no_files = Unit {0}
HasNoFile (entry name (file b) more) = ⊥
HasNoFile (entry name (folder files) more) = HasNoFile files × HasNoFile more

abbrev pub IsNoFile : Option Node → Type 0
IsNoFile None = Unit {0}
IsNoFile (Some (file b)) = ⊥
IsNoFile (Some (folder files)) = HasNoFile files
