-- What a stack reads: the files of its environments, and then, for some names, those of package folders and of standard
-- libraries. All are read, needed or not.
use Rattle.std.specs.Prelude.{ℕ, Bool, true, if◌then◌else◌, List, [], ◌∷◌, Option, None, Ok}
use Rattle.std.specs.Str.{bytes_eq}
use Rattle.pkg_world.specs.declared.place.Place.{Place}
use Rattle.pkg_world.specs.Path.{Path}
use Rattle.pkg_world.specs.Tree.{Files}
use Rattle.env_maps.specs.declared.id.Context.{Context}
use Rattle.env_maps.specs.declared.id.Context.TheVariants.{Top, Package, Extension}
use Rattle.env_maps.specs.ByName.{found_in, is_among}
use Rattle.env_maps.specs.declared.id.Id.{Id}
use Rattle.env_maps.specs.Candidates.{candidates_in, root_at, graph_at, path_at}
use Rattle.pkg_world.specs.Each.{then_ok, read_each}
use Rattle.project_places.specs.Files.{Read}
use Rattle.env_maps.specs.Library.{library_in}
use Rattle.env_maps.specs.Contexts.{Uses}
use Rattle.env_maps.specs.Maps.{root_of, graph_of, path_with}
use Rattle.env_maps.specs.ThreeMaps.{Maps}
use Rattle.import_lookup.specs.declared.answer.ImportAnswer.{ImportAnswer}
use Rattle.import_lookup.specs.declared.loaded.Environment.{Environment}
use Rattle.import_lookup.specs.declared.loaded.Environment.TheVariants as kinds
use Rattle.import_lookup.specs.declared.loaded.Loaded.{Loaded}
use Rattle.import_lookup.specs.declared.loaded.Loaded.TheVariants.{Project, Folder}
use Rattle.import_lookup.specs.Import.{import_over, maps_of}
use Rattle.import_lookup.specs.LoadPath.{environments}

-- an environment as it is kept for these names
abbrev pub loaded_of : Files → List (List ℕ) → Environment → Read (List Loaded)
loaded_of files names (kinds.Project env) = Ok (Project env ∷ [])
loaded_of files names (kinds.Folder folder) = then_ok (candidates_in files folder names) (λ found. Ok (Folder found ∷ []))

abbrev pub all_loaded : Files → List (List ℕ) → List Environment → Read (List Loaded)
all_loaded files names envs = read_each (loaded_of files names) envs

-- a stack: its environments, and the standard libraries, of the names with which it was loaded
pub record Held : Type 0 where
  pub envs : List Loaded
  pub library : List (List ℕ × Option (List ℕ))

abbrev pub with_library : Files → Place → List (List ℕ) → List Loaded → Read Held
with_library files place names loaded = then_ok (library_in files place.stdlib names) (λ library. Ok (record { envs = loaded; library = library }))

abbrev pub held_of : Files → Place → List (List ℕ) → List Environment → Read Held
held_of files place names envs = then_ok (all_loaded files names envs) (with_library files place names)

-- the stack of a place, for these names: first the project files and manifests, then package folders, then standard
-- libraries
abbrev pub stack_in : Files → Place → List (List ℕ) → Read Held
stack_in files place names = then_ok (environments files place) (held_of files place names)

-- what an environment says that was loaded
abbrev pub loaded_root : Loaded → List ℕ → Option Id
loaded_root (Project env) name = root_of env name
loaded_root (Folder found) name = root_at name (found_in found name)

abbrev pub loaded_graph : Loaded → Id → Option Uses
loaded_graph (Project env) id = graph_of env id
loaded_graph (Folder found) id = graph_at id.uuid (found_in found id.name)

abbrev pub loaded_path : Files → List (List ℕ × Option (List ℕ)) → Loaded → Id → Option Path
loaded_path files library (Project env) id = path_with files (found_in library id.name) env id
loaded_path files library (Folder found) id = path_at id.uuid (found_in found id.name)

-- its maps
abbrev pub loaded_maps : Files → List (List ℕ × Option (List ℕ)) → Loaded → Maps
loaded_maps files library env = record { roots = loaded_root env; graph = loaded_graph env; paths = loaded_path files library env }

-- its maps without the paths, for which files are looked at
abbrev pub kept_maps : Loaded → Maps
kept_maps env = record { roots = loaded_root env; graph = loaded_graph env; paths = λ id. None }

-- whether a stack that was loaded with these names serves a context
abbrev pub serves : List (List ℕ) → Context → Bool
serves names Top = true
serves names (Package id) = is_among id.name names
serves names (Extension uuid parent extension) = is_among parent names

abbrev pub answered : Files → Place → List (List ℕ) → Context → List ℕ → List Environment → Read ImportAnswer
answered files place names context name envs =
    then_ok (held_of files place names envs) (λ held. Ok (import_over files (maps_of files place.stdlib) envs context name))

-- the answer of an import over the environments of the load path and over all names, or the first file that is refused of
-- those that are read for these names
abbrev pub import_in : Files → Place → List (List ℕ) → Context → List ℕ → Read ImportAnswer
import_in files place names context name = then_ok (environments files place) (answered files place names context name)

-- a context's name and the imported one, once where they are the same
abbrev pub both_names : List ℕ → List ℕ → List (List ℕ)
both_names from name = if bytes_eq from name then name ∷ [] else from ∷ name ∷ []

-- the names for which the files are read: the context's, which for an extension is its parent's, and the imported one
abbrev pub names_of : Context → List ℕ → List (List ℕ)
names_of Top name = name ∷ []
names_of (Package id) name = both_names id.name name
names_of (Extension uuid parent extension) name = both_names parent name
