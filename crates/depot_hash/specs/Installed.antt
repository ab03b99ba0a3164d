-- Where a tree is installed.
use Rattle.std.specs.Prelude.{ℕ, Bool, false, if◌then◌else◌, List, [], ◌∷◌, ◌++◌, map, Option, Some, None, codes}
use Rattle.pkg_world.specs.Path.{Path, joined}
use Rattle.pkg_world.specs.Tree.{Files, holds, is_folder}
use Rattle.depot_hash.specs.Slugs.{slug_of}

-- a package's folder of that slug, below a depot
abbrev pub folder_text : List ℕ → List ℕ → List ℕ
folder_text name slug = codes "packages/" ++ name ++ 47 ∷ slug

-- a path that rises above the root counts as not there
abbrev pub is_there : Files → Option Path → Bool
is_there files None = false
is_there files (Some path) = is_folder (holds path files)

-- the first path of a list at which a folder is
abbrev pub first_there : Files → List (Option Path) → Option Path
first_there files [] = None
first_there files (path ∷ more) = if is_there files path then path else first_there files more

abbrev pub below_depots : List Path → List ℕ → List ℕ → List (Option Path)
below_depots depots name slug = map (λ depot. joined depot (folder_text name slug)) depots

-- the first folder of five letters in the order of the depots, then the first one of four letters
abbrev pub installed_in : Files → List Path → List ℕ → List ℕ → List ℕ → Option Path
installed_in files depots name uuid tree =
    first_there files (below_depots depots name (slug_of 5 uuid tree) ++ below_depots depots name (slug_of 4 uuid tree))
