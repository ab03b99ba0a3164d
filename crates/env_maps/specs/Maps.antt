-- The environment of a project and its maps (Julia manual, Code Loading): names to identities, and identities to entry paths.
use Rattle.std.specs.Prelude.{ℕ, Bool, true, false, not, ◌&&◌, if◌then◌else◌, List, [], ◌∷◌, ◌++◌, codes, Option, Some, None, option_map, Result, Ok, Err}
use Rattle.std.specs.Option.{option_and_then}
use Rattle.std.specs.Str.{bytes_eq}
use Rattle.pkg_world.specs.Each.{then_ok}
use Rattle.pkg_world.specs.Path.{Path, joined, folder_of}
use Rattle.pkg_world.specs.Tree.{Files, holds, is_file}
use Rattle.pkg_world.specs.declared.place.Place.{Place}
use Rattle.pkg_world.specs.declared.cause.Cause.{Cause}
use Rattle.pkg_world.specs.declared.cause.Cause.TheVariants.{BadShape}
use Rattle.project_file.specs.Said as project
use Rattle.manifest_file.specs.Saying.{SaidStanza}
use Rattle.manifest_file.specs.declared.origin.Origin.{Origin}
use Rattle.manifest_file.specs.declared.origin.Origin.TheVariants.{Tree, Path as PathOrigin, Repo, Std}
use Rattle.depot_hash.specs.Installed.{installed_in}
use Rattle.env_maps.specs.declared.id.Id.{Id}
use Rattle.env_maps.specs.declared.id.Context.{Context}
use Rattle.env_maps.specs.declared.id.DepAnswer.{DepAnswer}
use Rattle.env_maps.specs.declared.id.DepAnswer.TheVariants.{NotMine, NoName, Found}
use Rattle.entry_files.specs.Entries.{source_text}
use Rattle.env_maps.specs.Contexts.{Uses, same_uuid, base_of, path_from}
use Rattle.env_maps.specs.Library.{library_folder, library_read}
use Rattle.project_places.specs.Files.{Read, at_file, project_in, manifest_in}
use Rattle.project_places.specs.ManifestPath.{manifest_path}

-- a project: where its file is or would be, the identity of its own package, what it uses, and the stanzas of its
-- manifest with the folder from which their paths go; the depots and the standard library folder of its place
pub record Env : Type 0 where
  pub file : Path
  pub own : Option Id
  pub uses : Uses
  pub folder : Path
  pub stanzas : List SaidStanza
  pub depots : List Path
  pub stdlib : Option Path

-- whether a path is none
abbrev pub is_absent : Option Path → Bool
is_absent None = true
is_absent (Some path) = false

-- whether the path of a stanza rises above the root
abbrev pub escapes : Path → Origin → Bool
escapes folder (PathOrigin text) = is_absent (joined folder text)
escapes folder (Tree tree) = false
escapes folder (Repo url rev subdir tree) = false
escapes folder Std = false

-- the name of the first stanza whose path rises above the root
abbrev pub first_escaping : Path → List SaidStanza → Option (List ℕ)
first_escaping folder [] = None
first_escaping folder (stanza ∷ more) = if escapes folder stanza.origin then Some stanza.name else first_escaping folder more

-- the key path of a stanza's path
abbrev pub path_keys : List ℕ → List ℕ
path_keys name = codes "deps." ++ (name ++ codes ".path")

abbrev pub unless_escaping : {T : Type 0} → Option (List ℕ) → T → Result T Cause
unless_escaping None value = Ok value
unless_escaping (Some name) value = Err (BadShape (path_keys name))

-- the identity of the project's own package, where the file has both name and identifier
abbrev pub own_of : Option (List ℕ) → Option (List ℕ) → Option Id
own_of (Some name) (Some uuid) = Some (record { uuid = Some uuid; name = name })
own_of (Some name) None = None
own_of None uuid = None

-- what a project's file says of the packages that it uses
abbrev pub project_uses : project.Said → Uses
project_uses said = record { deps = said.deps; weakdeps = said.weakdeps; extensions = said.extensions }

-- the same of a stanza
abbrev pub stanza_uses : SaidStanza → Uses
stanza_uses stanza = record { deps = stanza.deps; weakdeps = stanza.weakdeps; extensions = stanza.extensions }

abbrev pub no_uses : Uses
no_uses = record { deps = []; weakdeps = []; extensions = [] }

-- the environment of a project, by its own package and what it uses, and of the stanzas of its manifest; a stanza's
-- path that rises above the root is refused
abbrev pub env_of : Place → Path → Option Id → Uses → Path → List SaidStanza → Read Env
env_of place file own uses path stanzas =
    at_file path (unless_escaping (first_escaping (folder_of path) stanzas)
    (record { file = file; own = own; uses = uses; folder = folder_of path; stanzas = stanzas; depots = place.depots.items; stdlib = place.stdlib }))

abbrev pub env_at : Files → Place → Path → Option Id → Uses → Path → Read Env
env_at files place file own uses path = then_ok (at_file path (manifest_in (holds path files))) (λ found. env_of place file own uses path found.stanzas)

abbrev pub no_env : Place → Path → Env
no_env place file = record { file = file; own = None; uses = no_uses; folder = folder_of file; stanzas = []; depots = place.depots.items; stdlib = place.stdlib }

-- a project file that isn't there gives an environment without entries, whatever manifest lies beside it
abbrev pub env_with : Files → Place → Path → Option project.Said → Read Env
env_with files place file None = Ok (no_env place file)
env_with files place file (Some said) = then_ok (at_file file (manifest_path files file said.manifest)) (env_at files place file (own_of said.name said.uuid) (project_uses said))

-- the environment of a project file: the file itself, then its manifest
abbrev pub env_in : Files → Place → Path → Read Env
env_in files place file = then_ok (at_file file (project_in (holds file files))) (env_with files place file)

-- the identity that a dependency's name has
abbrev pub dep_of : List ℕ → List (List ℕ × List ℕ) → Option Id
dep_of name [] = None
dep_of name ((key, uuid) ∷ more) = if bytes_eq key name then Some (record { uuid = Some uuid; name = name }) else dep_of name more

-- the own package where it has that name, else the dependency
abbrev pub own_or : List ℕ → Option Id → Option Id → Option Id
own_or name None dep = dep
own_or name (Some id) dep = if bytes_eq id.name name then Some id else dep

-- names to identities: the project's own name, then its dependencies
abbrev pub root_of : Env → List ℕ → Option Id
root_of env name = own_or name env.own (dep_of name env.uses.deps)

abbrev pub is_identity : Id → Option Id → Bool
is_identity id None = false
is_identity id (Some other) = bytes_eq other.name id.name && same_uuid other.uuid id.uuid

-- the first stanza of an identity
abbrev pub stanza_of : Id → List SaidStanza → Option SaidStanza
stanza_of id [] = None
stanza_of id (stanza ∷ more) = if bytes_eq stanza.name id.name && same_uuid (Some stanza.uuid) id.uuid then Some stanza else stanza_of id more

-- a stanza's path is the entry file itself where it is a file, else the folder that holds `src/X.jl`
abbrev pub entry_at : Files → List ℕ → Path → Option Path
entry_at files name path = if is_file (holds path files) then Some path else joined path (source_text name)

-- the entry of an installed tree is `src/X.jl` inside; none where none is installed
abbrev pub source_in : List ℕ → Option Path → Option Path
source_in name folder = option_and_then (λ tree. joined tree (source_text name)) folder

-- the entry of a standard library is `src/X.jl` in its folder, where the project file there has the stanza's identifier
abbrev pub library_entry : Option Path → Option (List ℕ) → List ℕ → List ℕ → Option Path
library_entry stdlib library name uuid = if same_uuid (Some uuid) library then source_in name (library_folder stdlib name) else None

-- the entry by where the package comes from; `library` is the identifier that the standard library of its name has
abbrev pub origin_entry : Files → List Path → Path → Option Path → Option (List ℕ) → List ℕ → List ℕ → Origin → Option Path
origin_entry files depots folder stdlib library name uuid (PathOrigin text) = option_and_then (entry_at files name) (joined folder text)
origin_entry files depots folder stdlib library name uuid (Tree tree) = source_in name (installed_in files depots name uuid tree)
origin_entry files depots folder stdlib library name uuid (Repo url rev subdir tree) = source_in name (installed_in files depots name uuid tree)
origin_entry files depots folder stdlib library name uuid Std = library_entry stdlib library name uuid

abbrev pub stanza_entry : Files → List Path → Path → Option Path → Option (List ℕ) → Option SaidStanza → Option Path
stanza_entry files depots folder stdlib library None = None
stanza_entry files depots folder stdlib library (Some stanza) =
    origin_entry files depots folder stdlib library stanza.name stanza.uuid stanza.origin

-- identities to paths, by the identifier that the standard library of the identity's name has: the project's own package
-- has `src/X.jl` beside the project file, and comes before a stanza
abbrev pub path_with : Files → Option (List ℕ) → Env → Id → Option Path
path_with files library env id =
    if is_identity id env.own then joined (folder_of env.file) (source_text id.name)
    else stanza_entry files env.depots env.folder env.stdlib library (stanza_of id env.stanzas)

abbrev pub is_std_origin : Origin → Bool
is_std_origin Std = true
is_std_origin (PathOrigin text) = false
is_std_origin (Tree tree) = false
is_std_origin (Repo url rev subdir tree) = false

abbrev pub is_std : Option SaidStanza → Bool
is_std None = false
is_std (Some stanza) = is_std_origin stanza.origin

-- whether an identity is a standard library by its stanza
abbrev pub is_library : Env → Id → Bool
is_library env id = not (is_identity id env.own) && is_std (stanza_of id env.stanzas)

-- the identifier that counts for an identity's path; only for a standard library a file is read
abbrev pub library_for : Files → Env → Id → Read (Option (List ℕ))
library_for files env id = if is_library env id then library_read files env.stdlib id.name else Ok None

-- packages to what they use: the project for its own package, which comes before a stanza, else the stanza
abbrev pub graph_of : Env → Id → Option Uses
graph_of env id = if is_identity id env.own then Some env.uses else option_map stanza_uses (stanza_of id env.stanzas)

abbrev pub path_seen : Files → Option (List ℕ) → Env → Context → Id → Option Path
path_seen files library env context id = path_from files (graph_of env) (path_with files library env) context id

-- the entry path of an identity as it is seen from a context, or the refused project file of the standard library that it
-- lies in
abbrev pub entry_in : Files → Env → Context → Id → Read (Option Path)
entry_in files env context id = then_ok (library_for files env (base_of context id)) (λ library. Ok (path_seen files library env context id))

abbrev pub found_or_none : Option Id → DepAnswer
found_or_none None = NoName
found_or_none (Some id) = Found id

-- what an environment says of a name from a context, by the context's dependencies
abbrev pub dep_answer : List ℕ → Option (List (List ℕ × List ℕ)) → DepAnswer
dep_answer name None = NotMine
dep_answer name (Some deps) = found_or_none (dep_of name deps)
