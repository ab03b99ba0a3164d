-- The import of a name from a context (Julia manual, Code Loading), over the environments of the load path and over all names.
use Rattle.std.specs.Prelude.{ℕ, if◌then◌else◌, List, [], ◌∷◌, Option, Some, None}
use Rattle.std.specs.Option.{option_and_then}
use Rattle.std.specs.Str.{bytes_eq}
use Rattle.pkg_world.specs.Path.{Path}
use Rattle.pkg_world.specs.Tree.{Files, holds, is_file}
use Rattle.env_maps.specs.declared.id.Id.{Id}
use Rattle.env_maps.specs.declared.id.Context.{Context}
use Rattle.env_maps.specs.declared.id.Context.TheVariants.{Top, Package, Extension}
use Rattle.project_places.specs.Active.{or_next}
use Rattle.env_maps.specs.Contexts.{in_graph, extension_of, path_from}
use Rattle.env_maps.specs.Maps.{dep_of}
use Rattle.env_maps.specs.ThreeMaps.{Maps, project_maps, folder_maps}
use Rattle.env_maps.specs.Candidates.{candidate}
use Rattle.env_maps.specs.Library.{library_uuid}
use Rattle.import_lookup.specs.declared.loaded.Environment.{Environment}
use Rattle.import_lookup.specs.declared.loaded.Environment.TheVariants.{Project, Folder}
use Rattle.import_lookup.specs.declared.answer.ImportAnswer.{ImportAnswer}
use Rattle.import_lookup.specs.declared.answer.ImportAnswer.TheVariants.{Found, NoIdentity, NoSource}

-- the maps of an environment, over all names, at a place with that standard library folder
abbrev pub maps_of : Files → Option Path → Environment → Maps
maps_of files stdlib (Project env) = project_maps files (library_uuid files stdlib) env
maps_of files stdlib (Folder folder) = folder_maps (candidate files folder)

-- what the first environment says that says something
abbrev pub first_of : {E T : Type 0} → (E → Option T) → List E → Option T
first_of says [] = None
first_of says (env ∷ more) = or_next (says env) (first_of says more)

-- the identity that a name has at the top level
abbrev pub root_in : {E : Type 0} → (E → Maps) → List E → List ℕ → Option Id
root_in maps stack name = first_of (λ env. (maps env).roots name) stack

-- the dependency of that name of a context: the first environment that has the context decides
abbrev pub dependency_in : {E : Type 0} → (E → Maps) → List E → Context → List ℕ → Option Id
dependency_in maps stack context name = option_and_then (dep_of name) (first_of (λ env. in_graph (maps env).graph context) stack)

-- the entry path that an environment has for an identity, as it is seen from a context
abbrev pub path_seen : Files → Context → Id → Maps → Option Path
path_seen files context id maps = path_from files maps.graph maps.paths context id

-- the entry path of an identity, as it is seen from a context: the first environment that has one decides
abbrev pub path_in : {E : Type 0} → Files → (E → Maps) → List E → Context → Id → Option Path
path_in files maps stack context id = first_of (λ env. path_seen files context id (maps env)) stack

-- from a package without identifier as from the top level; else what its dependencies say, or nothing
abbrev pub from_package : {E : Type 0} → (E → Maps) → List E → Id → List ℕ → Option (List ℕ) → Option Id
from_package maps stack id name None = root_in maps stack name
from_package maps stack id name (Some uuid) = dependency_in maps stack (Package id) name

-- an extension's own name is the extension; else what its context sees, or nothing
abbrev pub from_extension : {E : Type 0} → (E → Maps) → List E → List ℕ → List ℕ → List ℕ → List ℕ → Option Id
from_extension maps stack uuid parent extension name =
    if bytes_eq extension name then Some (extension_of uuid extension) else dependency_in maps stack (Extension uuid parent extension) name

-- the identity of a name from a context; the context's own name is the context itself
abbrev pub identity : {E : Type 0} → (E → Maps) → List E → Context → List ℕ → Option Id
identity maps stack Top name = root_in maps stack name
identity maps stack (Package id) name = if bytes_eq id.name name then Some id else from_package maps stack id name id.uuid
identity maps stack (Extension uuid parent extension) name = from_extension maps stack uuid parent extension name

-- an identity is found where its path is a file
abbrev pub by_path : Files → Id → Option Path → ImportAnswer
by_path files id None = NoSource id
by_path files id (Some path) = if is_file (holds path files) then Found id path else NoSource id

abbrev pub by_identity : {E : Type 0} → Files → (E → Maps) → List E → Context → Option Id → ImportAnswer
by_identity files maps stack context None = NoIdentity
by_identity files maps stack context (Some id) = by_path files id (path_in files maps stack context id)

-- the answer of an import over environments with these maps
abbrev pub import_over : {E : Type 0} → Files → (E → Maps) → List E → Context → List ℕ → ImportAnswer
import_over files maps stack context name = by_identity files maps stack context (identity maps stack context name)
