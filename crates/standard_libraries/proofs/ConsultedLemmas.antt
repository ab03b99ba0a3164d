-- The libraries rest on the names in their folder and on what their project files hold.
use Rattle.std.proofs.Common.{◌≡◌, ℕ, List, [], ◌∷◌, ◌++◌, codes, Option, Some, None, option_to_list, Ok, refl, ap, ◌∙◌}
use Rattle.std.specs.Option.{unwrap_or}
use Rattle.std.specs.List.{flat_map}
use Rattle.pkg_world.specs.Each.{then_ok, read_each}
use Rattle.pkg_world.specs.Path.{Path}
use Rattle.pkg_world.specs.Tree.{Files, Content, at, holds, names_at}
use Rattle.project_places.specs.Files.{Read, at_file, project_in}
use Rattle.registry_tables.specs.Consulted.{AgreeAt, project_files}
use Rattle.registry_tables.specs.Registries.{children, in_folder}
use Rattle.registry_tables.proofs.Agreeing.{all-front, all-back, each-same, chosen-same}
use Rattle.standard_libraries.specs.Consulted.{LibrariesRestOnFiles}
use Rattle.standard_libraries.specs.Libraries.{found_of, folder_read, folders_read, by_id, libraries_at}
use Rattle.standard_libraries.specs.SaidLibrary.{SaidLibrary}

-- the library of a folder whose project file holds this
abbrev read_as : List ℕ → Path → Content → Read (List SaidLibrary)
read_as julia file there = then_ok (then_ok (at_file file (project_in there)) (λ said. Ok (found_of julia said))) (λ found. Ok (option_to_list found))

module _ (a b : Files) (julia : List ℕ) where
  folder-same : (folder : Path) → AgreeAt (project_files folder) a b → folder_read a julia folder ≡ folder_read b julia folder
  folder-same folder all = chosen-same a b (folder ++ codes "JuliaProject.toml" ∷ []) (folder ++ codes "Project.toml" ∷ []) all.0 all.1.0 (read_as julia)

  folders-same : (folders : List Path) → AgreeAt (flat_map project_files folders) a b → folders_read a julia folders ≡ folders_read b julia folders
  folders-same [] all = refl
  folders-same (folder ∷ more) all =
      each-same (folder_read a julia) (folder_read b julia) folder more
      (folder-same folder (all-front (λ path. holds path a ≡ holds path b) (project_files folder) (flat_map project_files more) all))
      (folders-same more (all-back (λ path. holds path a ≡ holds path b) (project_files folder) (flat_map project_files more) all))

-- the same names, the same paths
pub in-folder-same : (a b : Files) (folder : Path) → names_at (at folder a) ≡ names_at (at folder b) → in_folder a folder ≡ in_folder b folder
in-folder-same a b folder same = ap (λ names. children folder (unwrap_or names [])) same

pub libraries-rest : LibrariesRestOnFiles
libraries-rest one other julia None listed all = refl
libraries-rest one other julia (Some stdlib) listed all =
    ap (λ r. then_ok r (λ found. Ok (by_id found))) (folders-same one other julia (in_folder one stdlib) all)
    ∙ ap (libraries_at other julia) (in-folder-same one other stdlib listed.0)
