-- What a loaded stack says of the names with which it was loaded is what the files say of them.
use Rattle.std.proofs.Common.{◌≡◌, ◌≢◌, ℕ, Bool, true, false, ◌||◌, if◌then◌else◌, List, [], ◌∷◌, ◌++◌, Option, Some, None, option_map, Ok, Err, refl, sym, ap, ◌∙◌}
use Rattle.std.proofs.lemmas.Bool.{false≢true}
use Rattle.std.proofs.lemmas.Slice.Eq.{bytes_eq-Decides}
use Rattle.std.specs.Option.{option_and_then}
use Rattle.std.specs.Str.{bytes_eq}
use Rattle.pkg_world.specs.Path.{Path}
use Rattle.pkg_world.specs.Tree.{Files}
use Rattle.env_maps.specs.declared.id.Id.{Id}
use Rattle.env_maps.specs.declared.id.Context.{Context}
use Rattle.env_maps.specs.declared.id.Context.TheVariants.{Top, Package, Extension}
use Rattle.project_places.specs.Active.{or_next}
use Rattle.env_maps.specs.ByName.{by_name, with_name, found_in, given, is_among}
use Rattle.env_maps.specs.Candidates.{Candidate, candidate, candidate_read, candidates_in, root_at, graph_at, path_at}
use Rattle.pkg_world.specs.Each.{then_ok, read_each}
use Rattle.project_places.specs.Files.{Read}
use Rattle.env_maps.specs.Library.{library_in, library_read, library_uuid}
use Rattle.env_maps.specs.Contexts.{Uses, extension_deps, in_graph, package_id, extension_of, is_extension, base_of, path_by}
use Rattle.env_maps.specs.Maps.{Env, own_or, dep_of, graph_of, path_with}
use Rattle.env_maps.specs.ThreeMaps.{Maps, project_maps, folder_maps}
use Rattle.import_lookup.specs.declared.loaded.Environment.{Environment}
use Rattle.import_lookup.specs.declared.loaded.Environment.TheVariants as kinds
use Rattle.import_lookup.specs.declared.loaded.Loaded.{Loaded}
use Rattle.import_lookup.specs.declared.loaded.Loaded.TheVariants.{Project, Folder}
use Rattle.import_lookup.specs.Import.{maps_of, first_of, identity, from_package, from_extension, import_over, by_identity, by_path, root_in, path_in, path_seen, dependency_in}
use Rattle.import_lookup.specs.Loading.{loaded_of, all_loaded, loaded_maps, serves}

same_name : (a b : List ℕ) → bytes_eq a b ≡ true → a ≡ b
same_name a b e = (bytes_eq-Decides a b).0 e

-- a list of readings that is read was read item by item
record IsCons {S T : Type 0} (read : S → Read (List T)) (x : S) (xs : List S) (ys : List T) : Type 0 where
  pub first : List T
  pub rest : List T
  pub one : read x ≡ Ok first
  pub more : read_each read xs ≡ Ok rest
  pub both : ys ≡ first ++ rest

split : {S T : Type 0} (read : S → Read (List T)) (x : S) (xs : List S) (ys : List T) (one after : Read (List T)) → read x ≡ one → read_each read xs ≡ after
    → then_ok one (λ first. then_ok after (λ rest. Ok (first ++ rest))) ≡ Ok ys → IsCons read x xs ys
split read x xs ys (Ok first) (Ok rest) e f h = record { first = first; rest = rest; one = e; more = f; both = let same : first ++ rest ≡ ys = cc in sym same }
split read x xs ys (Ok first) (Err refused) e f h = let no-way : ⊥ = cc in absurd no-way
split read x xs ys (Err refused) after e f h = let no-way : ⊥ = cc in absurd no-way

cons_of : {S T : Type 0} (read : S → Read (List T)) (x : S) (xs : List S) (ys : List T) → read_each read (x ∷ xs) ≡ Ok ys → IsCons read x xs ys
cons_of read x xs ys h = split read x xs ys (read x) (read_each read xs) refl refl h

-- the same of readings that stand under their names
record IsNamed {T : Type 0} (read : List ℕ → Read T) (name : List ℕ) (first : List (List ℕ × T)) : Type 0 where
  pub value : T
  pub one : read name ≡ Ok value
  pub alone : first ≡ (name, value) ∷ []

named_by : {T : Type 0} (read : List ℕ → Read T) (name : List ℕ) (first : List (List ℕ × T)) (one : Read T) → read name ≡ one
    → then_ok one (λ value. Ok ((name, value) ∷ [])) ≡ Ok first → IsNamed read name first
named_by read name first (Ok value) e h = record { value = value; one = e; alone = let same : (name, value) ∷ [] ≡ first = cc in sym same }
named_by read name first (Err refused) e h = let no-way : ⊥ = cc in absurd no-way

named : {T : Type 0} (read : List ℕ → Read T) (name : List ℕ) (first : List (List ℕ × T)) → with_name read name ≡ Ok first → IsNamed read name first
named read name first h = named_by read name first (read name) refl h

found_step : {T : Type 0} (read : List ℕ → Read (Option T)) (key name : List ℕ) (value : Option T) (rest : List (List ℕ × Option T)) (same : Bool) → bytes_eq key name ≡ same
    → read key ≡ Ok value → (same ≡ false → found_in rest name ≡ given (read name)) → found_in ((key, value) ∷ rest) name ≡ given (read name)
found_step read key name value rest true e one later = rw e (ap given (sym one ∙ ap read (same_name key name e)))
found_step read key name value rest false e one later = rw e (later refl)

among_rest : (same rest : Bool) → (same || rest) ≡ true → same ≡ false → rest ≡ true
among_rest true rest h e = absurd (false≢true (sym e))
among_rest false rest h e = h

-- what is found of a name is what the reading gives for it
pub by_name_gives : {T : Type 0} (read : List ℕ → Read (Option T)) (names : List (List ℕ)) (found : List (List ℕ × Option T)) (name : List ℕ)
    → by_name read names ≡ Ok found → is_among name names ≡ true → found_in found name ≡ given (read name)
by_name_gives read [] found name e among = absurd (false≢true among)
by_name_gives read (key ∷ names) found name e among =
    let cut = cons_of (with_name read) key names found e in
    let only = named read key cut.first cut.one in
    let all : found ≡ (key, only.value) ∷ cut.rest = cut.both ∙ ap (λ first. first ++ cut.rest) only.alone in
    ap (λ xs. found_in xs name) all ∙ found_step read key name only.value cut.rest (bytes_eq key name) refl only.one
    (λ other. by_name_gives read names cut.rest name cut.more (among_rest (bytes_eq key name) (is_among name names) among other))

-- the first that says something, over two lists, the second one read from the first
or_next_assoc : {T : Type 0} (a b c : Option T) → or_next (or_next a b) c ≡ or_next a (or_next b c)
or_next_assoc None b c = refl
or_next_assoc (Some x) b c = refl

first_of-append : {E T : Type 0} (says : E → Option T) (xs ys : List E) → first_of says (xs ++ ys) ≡ or_next (first_of says xs) (first_of says ys)
first_of-append says [] ys = refl
first_of-append says (x ∷ xs) ys = ap (or_next (says x)) (first_of-append says xs ys) ∙ sym (or_next_assoc (says x) (first_of says xs) (first_of says ys))

first_of_read : {S E T : Type 0} (read : S → Read (List E)) (one : S → Option T) (other : E → Option T) (xs : List S) (ys : List E)
    → ((x : S) → (first : List E) → read x ≡ Ok first → one x ≡ first_of other first) → read_each read xs ≡ Ok ys → first_of one xs ≡ first_of other ys
first_of_read read one other [] ys same h = let none : [] ≡ ys = cc in ap (first_of other) none
first_of_read read one other (x ∷ xs) ys same h =
    let cut = cons_of read x xs ys h in
    ap (λ found. or_next found (first_of one xs)) (same x cut.first cut.one)
    ∙ ap (or_next (first_of other cut.first)) (first_of_read read one other xs cut.rest same cut.more)
    ∙ sym (first_of-append other cut.first cut.rest)
    ∙ ap (first_of other) (sym cut.both)

or_next-none : {T : Type 0} (a : Option T) → or_next a None ≡ a
or_next-none None = refl
or_next-none (Some x) = refl

-- what an environment says, as it was loaded
record IsFolder (files : Files) (folder : Path) (names : List (List ℕ)) (first : List Loaded) : Type 0 where
  pub found : List (List ℕ × Option Candidate)
  pub read : candidates_in files folder names ≡ Ok found
  pub alone : first ≡ Folder found ∷ []

folder_by : (files : Files) (folder : Path) (names : List (List ℕ)) (first : List Loaded) (reading : Read (List (List ℕ × Option Candidate))) → candidates_in files folder names ≡ reading
    → then_ok reading (λ found. Ok (Folder found ∷ [])) ≡ Ok first → IsFolder files folder names first
folder_by files folder names first (Ok found) e h = record { found = found; read = e; alone = let same : Folder found ∷ [] ≡ first = cc in sym same }
folder_by files folder names first (Err refused) e h = let no-way : ⊥ = cc in absurd no-way

-- what is asked of an environment: the same before and after loading
says_same : {T : Type 0} (files : Files) (stdlib : Option Path) (names : List (List ℕ)) (library : List (List ℕ × Option (List ℕ))) (ask : Maps → Option T)
    → ((env : Env) → ask (project_maps files (library_uuid files stdlib) env) ≡ ask (project_maps files (found_in library) env))
    → ((folder : Path) (found : List (List ℕ × Option Candidate)) → candidates_in files folder names ≡ Ok found → ask (folder_maps (candidate files folder)) ≡ ask (folder_maps (found_in found)))
    → (env : Environment) (first : List Loaded) → loaded_of files names env ≡ Ok first → ask (maps_of files stdlib env) ≡ first_of (λ loaded. ask (loaded_maps files library loaded)) first
says_same files stdlib names library ask projects folders (kinds.Project env) first h =
    let alone : Project env ∷ [] ≡ first = cc in
    projects env ∙ sym (or_next-none (ask (project_maps files (found_in library) env))) ∙ ap (first_of (λ loaded. ask (loaded_maps files library loaded))) alone
says_same files stdlib names library ask projects folders (kinds.Folder folder) first h =
    let is = folder_by files folder names first (candidates_in files folder names) refl h in
    folders folder is.found is.read ∙ sym (or_next-none (ask (folder_maps (found_in is.found)))) ∙ ap (first_of (λ loaded. ask (loaded_maps files library loaded))) (sym is.alone)

candidates_same : (files : Files) (folder : Path) (names : List (List ℕ)) (found : List (List ℕ × Option Candidate)) (name : List ℕ)
    → is_among name names ≡ true → candidates_in files folder names ≡ Ok found → candidate files folder name ≡ found_in found name
candidates_same files folder names found name among h = sym (by_name_gives (candidate_read files folder) names found name h among)

library_same : (files : Files) (stdlib : Option Path) (names : List (List ℕ)) (library : List (List ℕ × Option (List ℕ))) (name : List ℕ)
    → is_among name names ≡ true → library_in files stdlib names ≡ Ok library → library_uuid files stdlib name ≡ found_in library name
library_same files stdlib names library name among h = sym (by_name_gives (library_read files stdlib) names library name h among)

-- the three maps of the stack
root_same : (files : Files) (stdlib : Option Path) (names : List (List ℕ)) (library : List (List ℕ × Option (List ℕ))) (envs : List Environment) (loaded : List Loaded) (name : List ℕ)
    → all_loaded files names envs ≡ Ok loaded → is_among name names ≡ true
    → root_in (maps_of files stdlib) envs name ≡ root_in (loaded_maps files library) loaded name
root_same files stdlib names library envs loaded name h among =
    first_of_read (loaded_of files names) (λ env. (maps_of files stdlib env).roots name) (λ l. (loaded_maps files library l).roots name) envs loaded
    (says_same files stdlib names library (λ maps. maps.roots name) (λ env. refl) (λ folder found read. ap (root_at name) (candidates_same files folder names found name among read)))
    h

-- what is seen from a context, by what one package uses
graph_same : (files : Files) (stdlib : Option Path) (names : List (List ℕ)) (library : List (List ℕ × Option (List ℕ))) (envs : List Environment) (loaded : List Loaded) (context : Context) (id : Id) (see : Option Uses → Option (List (List ℕ × List ℕ))) (name : List ℕ)
    → ((graph : Id → Option Uses) → in_graph graph context ≡ see (graph id))
    → all_loaded files names envs ≡ Ok loaded → is_among id.name names ≡ true
    → dependency_in (maps_of files stdlib) envs context name ≡ dependency_in (loaded_maps files library) loaded context name
graph_same files stdlib names library envs loaded context id see name seen h among =
    ap (option_and_then (dep_of name))
    (first_of_read (loaded_of files names) (λ env. in_graph (maps_of files stdlib env).graph context) (λ l. in_graph (loaded_maps files library l).graph context) envs loaded
    (says_same files stdlib names library (λ maps. in_graph maps.graph context) (λ env. refl)
    (λ folder found read. seen (folder_maps (candidate files folder)).graph ∙ ap (λ c. see (graph_at id.uuid c)) (candidates_same files folder names found id.name among read) ∙ sym (seen (folder_maps (found_in found)).graph)))
    h)

path_same : (files : Files) (stdlib : Option Path) (names : List (List ℕ)) (library : List (List ℕ × Option (List ℕ))) (envs : List Environment) (loaded : List Loaded) (context : Context) (id : Id)
    → all_loaded files names envs ≡ Ok loaded → library_in files stdlib names ≡ Ok library → is_among (base_of context id).name names ≡ true
    → path_in files (maps_of files stdlib) envs context id ≡ path_in files (loaded_maps files library) loaded context id
path_same files stdlib names library envs loaded context id h standard among =
    first_of_read (loaded_of files names) (λ env. path_seen files context id (maps_of files stdlib env)) (λ l. path_seen files context id (loaded_maps files library l)) envs loaded
    (says_same files stdlib names library (path_seen files context id)
    (λ env. ap (λ uuid. path_by files context id (graph_of env (base_of context id)) (path_with files uuid env (base_of context id))) (library_same files stdlib names library (base_of context id).name among standard))
    (λ folder found read. ap (λ c. path_by files context id (graph_at (base_of context id).uuid c) (path_at (base_of context id).uuid c)) (candidates_same files folder names found (base_of context id).name among read)))
    h

-- the package whose files hold an entry is among those that were read
base_if : (names : List (List ℕ)) (uuid parent : List ℕ) (id : Id) (is : Bool) → is_among parent names ≡ true → is_among id.name names ≡ true
    → is_among (if is then package_id uuid parent else id).name names ≡ true
base_if names uuid parent id true served among = served
base_if names uuid parent id false served among = among

base_among : (names : List (List ℕ)) (context : Context) (id : Id) → serves names context ≡ true → is_among id.name names ≡ true → is_among (base_of context id).name names ≡ true
base_among names Top id served among = among
base_among names (Package from) id served among = among
base_among names (Extension uuid parent extension) id served among = base_if names uuid parent id (is_extension uuid extension id) served among

-- an identity has the name that was asked for
next_named : {E : Type 0} (says : E → Option Id) (name : List ℕ) (env : E) (id : Id) (here later : Option Id)
    → ((env : E) (id : Id) → says env ≡ Some id → id.name ≡ name) → (later ≡ Some id → id.name ≡ name) → says env ≡ here → or_next here later ≡ Some id → id.name ≡ name
next_named says name env id None later each rest e h = rest h
next_named says name env id (Some other) later each rest e h = let same : other ≡ id = cc in each env id (e ∙ ap Some same)

first_named : {E : Type 0} (says : E → Option Id) (name : List ℕ) (stack : List E) (id : Id)
    → ((env : E) (id : Id) → says env ≡ Some id → id.name ≡ name) → first_of says stack ≡ Some id → id.name ≡ name
first_named says name [] id each h = let no-way : ⊥ = cc in absurd no-way
first_named says name (env ∷ more) id each h =
    next_named says name env id (says env) (first_of says more) each (first_named says name more id each) refl h

dep_next : (name uuid : List ℕ) (more : List (List ℕ × List ℕ)) (id : Id) (same : Bool) → (dep_of name more ≡ Some id → id.name ≡ name)
    → (if same then Some (record { uuid = Some uuid; name = name }) else dep_of name more) ≡ Some id → id.name ≡ name
dep_next name uuid more id true rest h = let made : record { uuid = Some uuid; name = name } ≡ id = cc in ap (λ i. i.name) (sym made)
dep_next name uuid more id false rest h = rest h

dep_named : (name : List ℕ) (deps : List (List ℕ × List ℕ)) (id : Id) → dep_of name deps ≡ Some id → id.name ≡ name
dep_named name [] id h = let no-way : ⊥ = cc in absurd no-way
dep_named name ((key, uuid) ∷ more) id h = dep_next name uuid more id (bytes_eq key name) (dep_named name more id) h

own_next : (name : List ℕ) (own id : Id) (dep : Option Id) (same : Bool) → bytes_eq own.name name ≡ same → (dep ≡ Some id → id.name ≡ name)
    → (if same then Some own else dep) ≡ Some id → id.name ≡ name
own_next name own id dep true e rest h = let is : own ≡ id = cc in ap (λ i. i.name) (sym is) ∙ same_name own.name name e
own_next name own id dep false e rest h = rest h

own_named : (name : List ℕ) (own : Option Id) (dep : Option Id) (id : Id) → (dep ≡ Some id → id.name ≡ name) → own_or name own dep ≡ Some id → id.name ≡ name
own_named name None dep id rest h = rest h
own_named name (Some own) dep id rest h = own_next name own id dep (bytes_eq own.name name) refl rest h

package_named : (name : List ℕ) (found : Option Candidate) (id : Id) → root_at name found ≡ Some id → id.name ≡ name
package_named name None id h = let no-way : ⊥ = cc in absurd no-way
package_named name (Some it) id h = let made : record { uuid = it.uuid; name = name } ≡ id = cc in ap (λ i. i.name) (sym made)

env_named : (files : Files) (stdlib : Option Path) (name : List ℕ) (env : Environment) (id : Id) → (maps_of files stdlib env).roots name ≡ Some id → id.name ≡ name
env_named files stdlib name (kinds.Project env) id h = own_named name env.own (dep_of name env.uses.deps) id (dep_named name env.uses.deps id) h
env_named files stdlib name (kinds.Folder folder) id h = package_named name (candidate files folder name) id h

dependency_named : (name : List ℕ) (found : Option (List (List ℕ × List ℕ))) (id : Id) → option_and_then (dep_of name) found ≡ Some id → id.name ≡ name
dependency_named name None id h = let no-way : ⊥ = cc in absurd no-way
dependency_named name (Some deps) id h = dep_named name deps id h

root_named : (files : Files) (stdlib : Option Path) (envs : List Environment) (name : List ℕ) (id : Id) → root_in (maps_of files stdlib) envs name ≡ Some id → id.name ≡ name
root_named files stdlib envs name id h = first_named (λ env. (maps_of files stdlib env).roots name) name envs id (λ env other. env_named files stdlib name env other) h

from_named : (files : Files) (stdlib : Option Path) (envs : List Environment) (from : Id) (name : List ℕ) (uuid : Option (List ℕ)) (id : Id)
    → from_package (maps_of files stdlib) envs from name uuid ≡ Some id → id.name ≡ name
from_named files stdlib envs from name None id h = root_named files stdlib envs name id h
from_named files stdlib envs from name (Some uuid) id h =
    dependency_named name (first_of (λ env. in_graph (maps_of files stdlib env).graph (Package from)) envs) id h

identity_named : (files : Files) (stdlib : Option Path) (envs : List Environment) (context : Context) (name : List ℕ) (id : Id)
    → identity (maps_of files stdlib) envs context name ≡ Some id → id.name ≡ name
identity_named files stdlib envs Top name id h = root_named files stdlib envs name id h
identity_named files stdlib envs (Package from) name id h =
    own_next name from id (from_package (maps_of files stdlib) envs from name from.uuid) (bytes_eq from.name name) refl (from_named files stdlib envs from name from.uuid id) h
identity_named files stdlib envs (Extension uuid parent extension) name id h =
    own_next name (extension_of uuid extension) id (dependency_in (maps_of files stdlib) envs (Extension uuid parent extension) name) (bytes_eq extension name) refl
    (dependency_named name (first_of (λ env. in_graph (maps_of files stdlib env).graph (Extension uuid parent extension)) envs) id) h

-- the identity of a name is that of the loaded stack
from_same : (files : Files) (stdlib : Option Path) (names : List (List ℕ)) (library : List (List ℕ × Option (List ℕ))) (envs : List Environment) (loaded : List Loaded) (from : Id) (name : List ℕ) (uuid : Option (List ℕ))
    → all_loaded files names envs ≡ Ok loaded → is_among from.name names ≡ true → is_among name names ≡ true
    → from_package (maps_of files stdlib) envs from name uuid ≡ from_package (loaded_maps files library) loaded from name uuid
from_same files stdlib names library envs loaded from name None h served among = root_same files stdlib names library envs loaded name h among
from_same files stdlib names library envs loaded from name (Some uuid) h served among =
    graph_same files stdlib names library envs loaded (Package from) from (option_map (λ uses. uses.deps)) name (λ graph. refl) h served

identity_same : (files : Files) (stdlib : Option Path) (names : List (List ℕ)) (library : List (List ℕ × Option (List ℕ))) (envs : List Environment) (loaded : List Loaded) (context : Context) (name : List ℕ)
    → all_loaded files names envs ≡ Ok loaded → serves names context ≡ true → is_among name names ≡ true
    → identity (maps_of files stdlib) envs context name ≡ identity (loaded_maps files library) loaded context name
identity_same files stdlib names library envs loaded Top name h served among = root_same files stdlib names library envs loaded name h among
identity_same files stdlib names library envs loaded (Package from) name h served among =
    ap (λ other. if bytes_eq from.name name then Some from else other) (from_same files stdlib names library envs loaded from name from.uuid h served among)
identity_same files stdlib names library envs loaded (Extension uuid parent extension) name h served among =
    ap (λ other. if bytes_eq extension name then Some (extension_of uuid extension) else other)
    (graph_same files stdlib names library envs loaded (Extension uuid parent extension) (package_id uuid parent) (option_and_then (extension_deps uuid parent extension)) name (λ graph. refl) h served)

identified_same : (files : Files) (stdlib : Option Path) (names : List (List ℕ)) (library : List (List ℕ × Option (List ℕ))) (envs : List Environment) (loaded : List Loaded) (context : Context) (name : List ℕ) (found : Option Id)
    → ((id : Id) → found ≡ Some id → id.name ≡ name) → all_loaded files names envs ≡ Ok loaded → library_in files stdlib names ≡ Ok library → serves names context ≡ true → is_among name names ≡ true
    → by_identity files (maps_of files stdlib) envs context found ≡ by_identity files (loaded_maps files library) loaded context found
identified_same files stdlib names library envs loaded context name None is h standard served among = refl
identified_same files stdlib names library envs loaded context name (Some id) is h standard served among =
    ap (by_path files id) (path_same files stdlib names library envs loaded context id h standard (base_among names context id served (ap (λ n. is_among n names) (is id refl) ∙ among)))

-- the import over the files and over all names is that of the loaded stack
pub import_same : (files : Files) (stdlib : Option Path) (names : List (List ℕ)) (library : List (List ℕ × Option (List ℕ))) (envs : List Environment) (loaded : List Loaded) (context : Context) (name : List ℕ)
    → all_loaded files names envs ≡ Ok loaded → library_in files stdlib names ≡ Ok library → serves names context ≡ true → is_among name names ≡ true
    → import_over files (maps_of files stdlib) envs context name ≡ import_over files (loaded_maps files library) loaded context name
import_same files stdlib names library envs loaded context name h standard served among =
    identified_same files stdlib names library envs loaded context name (identity (maps_of files stdlib) envs context name) (identity_named files stdlib envs context name) h standard served among
    ∙ ap (by_identity files (loaded_maps files library) loaded context) (identity_same files stdlib names library envs loaded context name h served among)
