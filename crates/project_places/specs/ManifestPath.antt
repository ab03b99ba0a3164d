-- Where a project's manifest lies (Pkg, Manifest.toml; the order of its two names is our own).
use Rattle.std.specs.Prelude.{ℕ, if◌then◌else◌, List, codes, Option, Some, None, Result, Ok, Err}
use Rattle.std.specs.Str.{bytes_eq}
use Rattle.pkg_world.specs.Path.{Path, joined, folder_of, path_text}
use Rattle.pkg_world.specs.Tree.{Files}
use Rattle.pkg_world.specs.declared.cause.Cause.{Cause}
use Rattle.pkg_world.specs.declared.cause.Cause.TheVariants.{BadShape}
use Rattle.project_places.specs.Active.{first_there}

-- the manifest beside a project file: the first that is there of the two names, else the second
abbrev pub manifest_beside : Files → Path → Path
manifest_beside files folder = first_there files folder (codes "JuliaManifest.toml") (codes "Manifest.toml")

abbrev pub manifest_refused : Cause
manifest_refused = BadShape (codes "manifest")

-- a path that may not rise above the root, nor be the project file's own
abbrev pub apart : Path → Option Path → Result Path Cause
apart file None = Err manifest_refused
apart file (Some path) = if bytes_eq (path_text path) (path_text file) then Err manifest_refused else Ok path

-- the path of a project's manifest, which need not be there: the one that the project names from its folder, else the
-- one beside it
abbrev pub manifest_path : Files → Path → Option (List ℕ) → Result Path Cause
manifest_path files file None = Ok (manifest_beside files (folder_of file))
manifest_path files file (Some text) = apart file (joined (folder_of file) text)
