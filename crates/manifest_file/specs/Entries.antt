-- What stands in a manifest's file (Pkg, Manifest.toml, format 2.0). Each record has what is read at its keys, or the first
-- refusal in key order, whatever the order in which the keys are listed here.
use Rattle.std.specs.Prelude.{ℕ, Bool, true, false, if◌then◌else◌, List, [], ◌∷◌, codes, Option, Some, None, Result, Ok, Err}
use Rattle.toml.specs.Data.{Data, Members, no_members, member, as_table}
use Rattle.toml_view.specs.Reading.{text_of, uuid_of, texts_of, or_shape, chained, opt, need, list_of, table_at}
use Rattle.toml_view.specs.KeyOrder.{in_key_order, verdict}
use Rattle.toml_view.specs.declared.refusal.Refusal.{Refusal}
use Rattle.toml_view.specs.Reading.{version_at}
use Rattle.manifest_file.specs.Format.{format_of}
use Rattle.manifest_file.specs.Values.{flag_at, dependencies_at, tree_at}
use Rattle.manifest_file.specs.declared.dependencies.Dependencies.TheVariants.{Names}
use Rattle.manifest_file.specs.declared.entry.Entry.{Entry}
use Rattle.manifest_file.specs.declared.entry.Entries.{Entries}
use Rattle.manifest_file.specs.declared.origin.Origin.{Origin}
use Rattle.manifest_file.specs.declared.origin.Origin.TheVariants.{Tree, Path, Repo, Std}

-- what was read, where it isn't refused
abbrev pub read_or : {T : Type 0} → T → Result T Refusal → T
read_or default (Ok value) = value
read_or default (Err refusal) = default

abbrev pub tree_or_std : Option (List ℕ) → Origin
tree_or_std None = Std
tree_or_std (Some tree) = Tree tree

-- a repository's tree; one without is refused before this counts
abbrev pub repository : List ℕ → Option (List ℕ) → Option (List ℕ) → Option (List ℕ) → Origin
repository url rev subdir None = Std
repository url rev subdir (Some tree) = Repo url rev subdir tree

abbrev pub unless_repository : Option (List ℕ) → Option (List ℕ) → Option (List ℕ) → Option (List ℕ) → Origin
unless_repository None rev subdir tree = tree_or_std tree
unless_repository (Some url) rev subdir tree = repository url rev subdir tree

-- where a package comes from: its path, else its repository, else its tree, else Julia itself
abbrev pub origin_of : Option (List ℕ) → Option (List ℕ) → Option (List ℕ) → Option (List ℕ) → Option (List ℕ) → Origin
origin_of None url rev subdir tree = unless_repository url rev subdir tree
origin_of (Some path) url rev subdir tree = Path path

-- a stanza's table
abbrev pub entry_of_members : Members → Result Entry Refusal
entry_of_members members =
    let uuid = need uuid_of (codes "uuid") members in
    let version = opt version_at (codes "version") members in
    let tree = tree_at members in
    let path = opt text_of (codes "path") members in
    let url = opt text_of (codes "repo-url") members in
    let rev = opt text_of (codes "repo-rev") members in
    let subdir = opt text_of (codes "repo-subdir") members in
    let pinned = flag_at (codes "pinned") members in
    let deps = dependencies_at (codes "deps") members in
    let weakdeps = dependencies_at (codes "weakdeps") members in
    let extensions = table_at texts_of (codes "extensions") members in
    in_key_order (
    verdict (codes "uuid") uuid
    ∷ verdict (codes "version") version
    ∷ verdict (codes "git-tree-sha1") tree
    ∷ verdict (codes "path") path
    ∷ verdict (codes "repo-url") url
    ∷ verdict (codes "repo-rev") rev
    ∷ verdict (codes "repo-subdir") subdir
    ∷ verdict (codes "pinned") pinned
    ∷ verdict (codes "deps") deps
    ∷ verdict (codes "weakdeps") weakdeps
    ∷ verdict (codes "extensions") extensions
    ∷ []) (Ok (record {
      uuid = read_or [] uuid;
      version = read_or None version;
      origin = origin_of (read_or None path) (read_or None url) (read_or None rev) (read_or None subdir) (read_or None tree);
      pinned = read_or false pinned;
      deps = read_or (Names []) deps;
      weakdeps = read_or (Names []) weakdeps;
      extensions = read_or [] extensions;
    }))

abbrev pub entry_of : Data → Result Entry Refusal
entry_of value = chained entry_of_members (or_shape (as_table value))

-- a table without any key
abbrev pub is_blank : Members → Bool
is_blank no_members = true
is_blank (member key value more) = false

-- a file's table with keys, which need a format
abbrev pub keyed_entries : Members → Result Entries Refusal
keyed_entries members =
    let format = need format_of (codes "manifest_format") members in
    let julia = opt version_at (codes "julia_version") members in
    let deps = table_at (list_of entry_of) (codes "deps") members in
    in_key_order (
    verdict (codes "manifest_format") format
    ∷ verdict (codes "julia_version") julia
    ∷ verdict (codes "deps") deps
    ∷ []) (Ok (record { julia_version = read_or None julia; by_name = read_or [] deps }))

-- a file's table: one without any key is an empty manifest
abbrev pub file_of : Members → Result Entries Refusal
file_of members = if is_blank members then Ok (record { julia_version = None; by_name = [] }) else keyed_entries members
