-- The table that says a manifest (Pkg, Manifest.toml, format 2.0).
use Rattle.std.specs.Prelude.{ℕ, ◌-◌, slice_get, Bool, true, false, not, ◌&&◌, if◌then◌else◌, List, [], ◌∷◌, map, codes, Option, Some, None}
use Rattle.std.specs.Option.{option_map}
use Rattle.std.specs.List.{list_all}
use Rattle.std.specs.Str.{bytes_eq}
use Rattle.std.specs.Ordering.{nat_cmp, is_le}
use Rattle.std.specs.Cmp.Lexicographic.{slice_cmp}
use Rattle.toml.specs.Data.{Data, string, boolean, array, table, Members, no_members, member}
use Rattle.toml.specs.View.{items_of}
use Rattle.uuid.specs.Text.{hyphenated_text, lower}
use Rattle.jl_versions.specs.Printing.{printed}
use Rattle.jl_versions.specs.declared.version.Version.{Version}
use Rattle.pkg_world.specs.TreeIds.{tree_text}
use Rattle.manifest_file.specs.Saying.{SaidStanza, Said}
use Rattle.manifest_file.specs.declared.bearers.Bearers.{Bearers}
use Rattle.manifest_file.specs.declared.bearers.Bearers.TheVariants.{Nobody, One, Several}
use Rattle.manifest_file.specs.declared.origin.Origin.{Origin}
use Rattle.manifest_file.specs.declared.origin.Origin.TheVariants.{Tree, Path, Repo, Std}

abbrev pub member_opt : List ℕ → Option Data → Members → Members
member_opt key None members = members
member_opt key (Some value) members = member key value members

-- keys with the values that they have
abbrev pub Puts : Type 0
Puts = List (List ℕ × Option Data)

-- the table of these keys, but for those without a value
abbrev pub members_opt : Puts → Members
members_opt [] = no_members
members_opt (put ∷ puts) = member_opt put.0 put.1 (members_opt puts)

-- those who bear a name, and one more
abbrev pub one_more : List ℕ → Bearers → Bearers
one_more id Nobody = One id
one_more id (One other) = Several
one_more id Several = Several

-- who bears a name among some stanzas
abbrev pub bearers_among : List SaidStanza → List ℕ → Bearers
bearers_among [] name = Nobody
bearers_among (stanza ∷ stanzas) name =
    if bytes_eq stanza.name name then one_more stanza.uuid (bearers_among stanzas name) else bearers_among stanzas name

abbrev pub is_the_one : Bearers → List ℕ → Bool
is_the_one Nobody uuid = false
is_the_one (One id) uuid = bytes_eq id uuid
is_the_one Several uuid = false

-- each name has exactly one stanza, and that has the identifier
abbrev pub are_listable : (List ℕ → Bearers) → List (List ℕ × List ℕ) → Bool
are_listable bearers ids = list_all (λ pair. is_the_one (bearers pair.0) pair.1) ids

abbrev pub uuid_data : List ℕ → Data
uuid_data id = string (hyphenated_text lower id)

abbrev pub version_data : Version → Data
version_data version = string (printed version)

abbrev pub names_data : List (List ℕ) → Data
names_data names = array (items_of (map string names))

abbrev pub id_put : List ℕ × List ℕ → List ℕ × Option Data
id_put pair = (pair.0, Some (uuid_data pair.1))

abbrev pub ids_data : List (List ℕ × List ℕ) → Data
ids_data ids = table (members_opt (map id_put ids))

-- an empty list isn't written
abbrev pub unless_empty : {T : Type 0} → List T → Data → Option Data
unless_empty [] value = None
unless_empty (x ∷ xs) value = Some value

-- dependencies: a list of names where that says the identifiers, else a table
abbrev pub dependencies_data : (List ℕ → Bearers) → List (List ℕ × List ℕ) → Option Data
dependencies_data bearers ids = unless_empty ids (if are_listable bearers ids then names_data (map (λ pair. pair.0) ids) else ids_data ids)

abbrev pub triggers_put : List ℕ × List (List ℕ) → List ℕ × Option Data
triggers_put extension = (extension.0, Some (names_data extension.1))

abbrev pub extensions_data : List (List ℕ × List (List ℕ)) → Option Data
extensions_data extensions = unless_empty extensions (table (members_opt (map triggers_put extensions)))

abbrev pub flag_data : Bool → Option Data
flag_data true = Some (boolean true)
flag_data false = None

abbrev pub tree_data : Origin → Option Data
tree_data (Tree tree) = Some (string (tree_text tree))
tree_data (Path path) = None
tree_data (Repo url rev subdir tree) = Some (string (tree_text tree))
tree_data Std = None

abbrev pub path_data : Origin → Option Data
path_data (Tree tree) = None
path_data (Path path) = Some (string path)
path_data (Repo url rev subdir tree) = None
path_data Std = None

abbrev pub url_data : Origin → Option Data
url_data (Tree tree) = None
url_data (Path path) = None
url_data (Repo url rev subdir tree) = Some (string url)
url_data Std = None

abbrev pub rev_data : Origin → Option Data
rev_data (Tree tree) = None
rev_data (Path path) = None
rev_data (Repo url rev subdir tree) = option_map string rev
rev_data Std = None

abbrev pub subdir_data : Origin → Option Data
subdir_data (Tree tree) = None
subdir_data (Path path) = None
subdir_data (Repo url rev subdir tree) = option_map string subdir
subdir_data Std = None

-- a stanza's keys in the order of their bytes: the last three
abbrev pub last_puts : (List ℕ → Bearers) → SaidStanza → Puts
last_puts bearers stanza =
    (codes "uuid", Some (uuid_data stanza.uuid)) ∷ (codes "version", option_map version_data stanza.version) ∷ (codes "weakdeps", dependencies_data bearers stanza.weakdeps) ∷ []

-- those from `repo-rev` on
abbrev pub repo_puts : (List ℕ → Bearers) → SaidStanza → Puts
repo_puts bearers stanza =
    (codes "repo-rev", rev_data stanza.origin) ∷ (codes "repo-subdir", subdir_data stanza.origin) ∷ (codes "repo-url", url_data stanza.origin) ∷ last_puts bearers stanza

-- those from `git-tree-sha1` on
abbrev pub later_puts : (List ℕ → Bearers) → SaidStanza → Puts
later_puts bearers stanza =
    (codes "git-tree-sha1", tree_data stanza.origin) ∷ (codes "path", path_data stanza.origin) ∷ (codes "pinned", flag_data stanza.pinned) ∷ repo_puts bearers stanza

abbrev pub stanza_puts : (List ℕ → Bearers) → SaidStanza → Puts
stanza_puts bearers stanza =
    (codes "deps", dependencies_data bearers stanza.deps) ∷ (codes "extensions", extensions_data stanza.extensions) ∷ later_puts bearers stanza

abbrev pub stanza_data : (List ℕ → Bearers) → SaidStanza → Data
stanza_data bearers stanza = table (members_opt (stanza_puts bearers stanza))

-- stanzas by name, where those of one name stand together
abbrev pub joined : SaidStanza → List (List ℕ × List SaidStanza) → List (List ℕ × List SaidStanza)
joined stanza [] = (stanza.name, stanza ∷ []) ∷ []
joined stanza (group ∷ groups) =
    if bytes_eq stanza.name group.0 then (stanza.name, stanza ∷ group.1) ∷ groups else (stanza.name, stanza ∷ []) ∷ group ∷ groups

abbrev pub grouped : List SaidStanza → List (List ℕ × List SaidStanza)
grouped [] = []
grouped (stanza ∷ stanzas) = joined stanza (grouped stanzas)

abbrev pub group_data : (List ℕ → Bearers) → List SaidStanza → Data
group_data bearers stanzas = array (items_of (map (stanza_data bearers) stanzas))

abbrev pub group_put : (List ℕ → Bearers) → List ℕ × List SaidStanza → List ℕ × Option Data
group_put bearers group = (group.0, Some (group_data bearers group.1))

abbrev pub stanzas_data : (List ℕ → Bearers) → List SaidStanza → Data
stanzas_data bearers stanzas = table (members_opt (map (group_put bearers) (grouped stanzas)))

-- the table of a manifest, where names have these bearers
abbrev pub written_by : (List ℕ → Bearers) → Said → Members
written_by bearers said = members_opt (
    (codes "deps", Some (stanzas_data bearers said.stanzas))
    ∷ (codes "julia_version", option_map version_data said.julia_version)
    ∷ (codes "manifest_format", Some (string (codes "2.0")))
    ∷ [])

-- the table that says a manifest
abbrev pub written : Said → Members
written said = written_by (bearers_among said.stanzas) said

-- a name isn't above that of the first stanza
abbrev pub is_not_above : List ℕ → List SaidStanza → Bool
is_not_above name [] = true
is_not_above name (next ∷ more) = is_le (slice_cmp nat_cmp name next.name)

-- the stanzas stand in the order of their names' bytes
abbrev pub are_by_name : List SaidStanza → Bool
are_by_name [] = true
are_by_name (stanza ∷ stanzas) = is_not_above stanza.name stanzas && are_by_name stanzas

-- a name is not that of the first group
abbrev pub is_apart : List ℕ → List (List ℕ × List SaidStanza) → Bool
is_apart name [] = true
is_apart name (group ∷ groups) = not (bytes_eq name group.0)

abbrev pub name_of : Option SaidStanza → List ℕ
name_of None = []
name_of (Some stanza) = stanza.name

-- the name of the stanza at a place, and of the one before a place
abbrev pub name_at : ℕ → List SaidStanza → List ℕ
name_at place stanzas = name_of (slice_get stanzas place)

abbrev pub name_before : ℕ → List SaidStanza → List ℕ
name_before place stanzas = name_at (place - 1) stanzas

-- stanzas of one name, the first of which has that name
abbrev pub with_run : List SaidStanza → List (List ℕ × List SaidStanza) → List (List ℕ × List SaidStanza)
with_run [] groups = groups
with_run (stanza ∷ stanzas) groups = (stanza.name, stanza ∷ stanzas) ∷ groups
