-- When files agree at the paths that a reading consults.
use Rattle.std.specs.Prelude.{◌≡◌, List, [], ◌∷◌, ◌++◌, codes}
use Rattle.std.specs.List.{AllByRecursion}
use Rattle.pkg_world.specs.Path.{Path}
use Rattle.pkg_world.specs.Tree.{Files, at, holds, names_at}

-- the same at each of these paths
abbrev pub AgreeAt : List Path → Files → Files → Type 0
AgreeAt paths one other = AllByRecursion (λ path. holds path one ≡ holds path other) paths

-- the same names in each of these folders
abbrev pub ListAlike : List Path → Files → Files → Type 0
ListAlike folders one other = AllByRecursion (λ folder. names_at (at folder one) ≡ names_at (at folder other)) folders

-- the two files of which one may be a folder's project file (Julia manual, Code Loading)
abbrev pub project_files : Path → List Path
project_files folder = (folder ++ codes "JuliaProject.toml" ∷ []) ∷ (folder ++ codes "Project.toml" ∷ []) ∷ []
