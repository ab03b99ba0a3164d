-- What the steps of reading cite: the keys one after the other in the order of their bytes.
use Rattle.std.specs.Prelude.{ℕ, Bool, List, codes, Option, Result}
use Rattle.toml.specs.Data.{Members}
use Rattle.toml_view.specs.Reading.{text_of, uuid_of, texts_of, chained, mapped, opt, need, list_of, table_at}
use Rattle.toml_view.specs.declared.refusal.Refusal.{Refusal}
use Rattle.jl_versions.specs.declared.version.Version.{Version}
use Rattle.toml_view.specs.Reading.{version_at}
use Rattle.manifest_file.specs.Format.{format_of}
use Rattle.manifest_file.specs.Values.{flag_at, dependencies_at, tree_at}
use Rattle.manifest_file.specs.Entries.{origin_of, entry_of}
use Rattle.manifest_file.specs.declared.dependencies.Dependencies.{Dependencies}
use Rattle.manifest_file.specs.declared.entry.Entry.{Entry}
use Rattle.manifest_file.specs.declared.entry.Entries.{Entries}
use Rattle.manifest_file.specs.declared.entry_reader.Front.{Front}
use Rattle.manifest_file.specs.declared.entry_reader.Back.{Back}

abbrev pub Exts : Type 0
Exts = List (List ℕ × List (List ℕ))

abbrev pub fronts : Result Dependencies Refusal → Result Exts Refusal → Result (Option (List ℕ)) Refusal → Result (Option (List ℕ)) Refusal → Result Bool Refusal → Result Front Refusal
fronts deps extensions tree path pinned =
    chained (λ d. chained (λ e. chained (λ t. chained (λ p. mapped (λ f. record { deps = d; extensions = e; tree = t; path = p; pinned = f }) pinned) path) tree) extensions) deps

abbrev pub backs : Result (Option (List ℕ)) Refusal → Result (Option (List ℕ)) Refusal → Result (Option (List ℕ)) Refusal → Result (List ℕ) Refusal → Result (Option Version) Refusal → Result Dependencies Refusal → Result Back Refusal
backs rev subdir url uuid version weakdeps =
    chained (λ r. chained (λ s. chained (λ u. chained (λ i. chained (λ v. mapped (λ w. record { rev = r; subdir = s; url = u; uuid = i; version = v; weakdeps = w }) weakdeps) version) uuid) url) subdir) rev

-- the keys up to `pinned`
abbrev pub front_of : Members → Result Front Refusal
front_of members =
    fronts (dependencies_at (codes "deps") members) (table_at texts_of (codes "extensions") members) (tree_at members) (opt text_of (codes "path") members) (flag_at (codes "pinned") members)

-- the keys from `repo-rev` on
abbrev pub back_of : Members → Result Back Refusal
back_of members =
    backs (opt text_of (codes "repo-rev") members) (opt text_of (codes "repo-subdir") members) (opt text_of (codes "repo-url") members) (need uuid_of (codes "uuid") members)
    (opt version_at (codes "version") members) (dependencies_at (codes "weakdeps") members)

abbrev pub joined : Front → Back → Entry
joined front back = record {
  uuid = back.uuid;
  version = back.version;
  origin = origin_of front.path back.url back.rev back.subdir front.tree;
  pinned = front.pinned;
  deps = front.deps;
  weakdeps = back.weakdeps;
  extensions = front.extensions;
}

abbrev pub both : Result Front Refusal → Result Back Refusal → Result Entry Refusal
both front back = chained (λ f. mapped (joined f) back) front

abbrev pub entry_chain : Members → Result Entry Refusal
entry_chain members = both (front_of members) (back_of members)

abbrev pub files : Result (List (List ℕ × List Entry)) Refusal → Result (Option Version) Refusal → Result (Unit {0}) Refusal → Result Entries Refusal
files deps julia format = chained (λ d. chained (λ j. mapped (λ f. record { julia_version = j; by_name = d }) format) julia) deps

abbrev pub entries_chain : Members → Result Entries Refusal
entries_chain members =
    files (table_at (list_of entry_of) (codes "deps") members) (opt version_at (codes "julia_version") members) (need format_of (codes "manifest_format") members)
