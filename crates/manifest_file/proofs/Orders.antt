-- Chains of readings in the order of their keys.
use Rattle.std.proofs.Common.{◌≡◌, ℕ, Bool, false, List, [], ◌∷◌, codes, Option, None, Result, Ok, Err, refl}
use Rattle.toml.specs.Data.{Members}
use Rattle.toml_view.specs.declared.refusal.Refusal.{Refusal}
use Rattle.toml_view.specs.KeyOrder.{in_key_order, verdict}
use Rattle.toml_view.specs.Reading.{text_of, uuid_of, texts_of, list_of, opt, need, table_at}
use Rattle.jl_versions.specs.declared.version.Version.{Version}
use Rattle.toml_view.specs.Reading.{version_at}
use Rattle.manifest_file.specs.Format.{format_of}
use Rattle.manifest_file.specs.Values.{flag_at, dependencies_at, tree_at}
use Rattle.manifest_file.specs.Entries.{read_or, origin_of, entry_of, entry_of_members, keyed_entries}
use Rattle.manifest_file.specs.Chains.{Exts, fronts, backs, both, files, entry_chain, entries_chain}
use Rattle.manifest_file.specs.declared.dependencies.Dependencies.{Dependencies}
use Rattle.manifest_file.specs.declared.dependencies.Dependencies.TheVariants.{Names}
use Rattle.manifest_file.specs.declared.entry.Entry.{Entry}
use Rattle.manifest_file.specs.declared.entry.Entries.{Entries}

eleven : (deps : Result Dependencies Refusal) (extensions : Result Exts Refusal) (tree path : Result (Option (List ℕ)) Refusal) (pinned : Result Bool Refusal)
    (rev subdir url : Result (Option (List ℕ)) Refusal) (uuid : Result (List ℕ) Refusal) (version : Result (Option Version) Refusal) (weakdeps : Result Dependencies Refusal)
    → in_key_order {T = Entry} (
    verdict (codes "uuid") uuid
    ∷ verdict (codes "version") version
    ∷ verdict (codes "git-tree-sha1") tree
    ∷ verdict (codes "path") path
    ∷ verdict (codes "repo-url") url
    ∷ verdict (codes "repo-rev") rev
    ∷ verdict (codes "repo-subdir") subdir
    ∷ verdict (codes "pinned") pinned
    ∷ verdict (codes "deps") deps
    ∷ verdict (codes "weakdeps") weakdeps
    ∷ verdict (codes "extensions") extensions
    ∷ []) (Ok (record {
      uuid = read_or [] uuid;
      version = read_or None version;
      origin = origin_of (read_or None path) (read_or None url) (read_or None rev) (read_or None subdir) (read_or None tree);
      pinned = read_or false pinned;
      deps = read_or (Names []) deps;
      weakdeps = read_or (Names []) weakdeps;
      extensions = read_or [] extensions;
    }))
    ≡ both (fronts deps extensions tree path pinned) (backs rev subdir url uuid version weakdeps)
eleven (Err r) extensions tree path pinned rev subdir url uuid version weakdeps = refl
eleven (Ok d) (Err r) tree path pinned rev subdir url uuid version weakdeps = refl
eleven (Ok d) (Ok e) (Err r) path pinned rev subdir url uuid version weakdeps = refl
eleven (Ok d) (Ok e) (Ok t) (Err r) pinned rev subdir url uuid version weakdeps = refl
eleven (Ok d) (Ok e) (Ok t) (Ok p) (Err r) rev subdir url uuid version weakdeps = refl
eleven (Ok d) (Ok e) (Ok t) (Ok p) (Ok f) (Err r) subdir url uuid version weakdeps = refl
eleven (Ok d) (Ok e) (Ok t) (Ok p) (Ok f) (Ok v) (Err r) url uuid version weakdeps = refl
eleven (Ok d) (Ok e) (Ok t) (Ok p) (Ok f) (Ok v) (Ok s) (Err r) uuid version weakdeps = refl
eleven (Ok d) (Ok e) (Ok t) (Ok p) (Ok f) (Ok v) (Ok s) (Ok u) (Err r) version weakdeps = refl
eleven (Ok d) (Ok e) (Ok t) (Ok p) (Ok f) (Ok v) (Ok s) (Ok u) (Ok i) (Err r) weakdeps = refl
eleven (Ok d) (Ok e) (Ok t) (Ok p) (Ok f) (Ok v) (Ok s) (Ok u) (Ok i) (Ok n) (Err r) = refl
eleven (Ok d) (Ok e) (Ok t) (Ok p) (Ok f) (Ok v) (Ok s) (Ok u) (Ok i) (Ok n) (Ok w) = refl

-- a stanza is what its keys give in the order of their bytes
pub entry_is : (members : Members) → entry_of_members members ≡ entry_chain members
entry_is members =
    eleven (dependencies_at (codes "deps") members) (table_at texts_of (codes "extensions") members) (tree_at members) (opt text_of (codes "path") members) (flag_at (codes "pinned") members)
    (opt text_of (codes "repo-rev") members) (opt text_of (codes "repo-subdir") members) (opt text_of (codes "repo-url") members) (need uuid_of (codes "uuid") members)
    (opt version_at (codes "version") members) (dependencies_at (codes "weakdeps") members)

three : (deps : Result (List (List ℕ × List Entry)) Refusal) (julia : Result (Option Version) Refusal) (format : Result (Unit {0}) Refusal)
    → in_key_order {T = Entries} (verdict (codes "manifest_format") format ∷ verdict (codes "julia_version") julia ∷ verdict (codes "deps") deps ∷ [])
    (Ok (record { julia_version = read_or None julia; by_name = read_or [] deps }))
    ≡ files deps julia format
three (Err r) julia format = refl
three (Ok d) (Err r) format = refl
three (Ok d) (Ok j) (Err r) = refl
three (Ok d) (Ok j) (Ok f) = refl

pub keyed_is : (members : Members) → keyed_entries members ≡ entries_chain members
keyed_is members =
    three (table_at (list_of entry_of) (codes "deps") members) (opt version_at (codes "julia_version") members) (need format_of (codes "manifest_format") members)
