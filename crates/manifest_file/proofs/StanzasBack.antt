-- A stanza reads back.
use Rattle.std.proofs.Common.{◌≡◌, ℕ, false, not, ◌&&◌, if◌then◌else◌, List, [], ◌∷◌, map, codes, Option, Some, None, is_some, unwrap_or, option_map, Result, Ok, Less, Equal, Greater, Ordering, refl, ap, ◌∙◌}
use Rattle.std.specs.Ordering.{nat_cmp, match_ordering}
use Rattle.std.specs.Cmp.Lexicographic.{slice_cmp}
use Rattle.toml.specs.Data.{Data, string, Members, get_member}
use Rattle.toml.specs.View.{items_of}
use Rattle.toml_view.specs.Causes.{then_read}
use Rattle.toml_view.specs.Reading.{text_of, uuid_of, tree_id_of, flag_of, version_at, texts_of, or_shape, or_empty, at, chained, mapped, opt, opt_at, need, need_at, items_read, table_at, table_of, list_of}
use Rattle.toml_view.specs.declared.refusal.Refusal.{Refusal}
use Rattle.pkg_world.specs.TreeIds.{tree_text}
use Rattle.manifest_file.specs.Chains.{fronts, backs, both}
use Rattle.manifest_file.specs.Entries.{origin_of, entry_of}
use Rattle.manifest_file.specs.Saying.{SaidStanza, all_read, ids_of, stanza_of, stanza_with}
use Rattle.manifest_file.specs.Values.{flag_at, dependencies_of, dependencies_at, tree_at}
use Rattle.manifest_file.specs.Written as spec
use Rattle.manifest_file.specs.ReadsBack.{TreeBack, OriginBack, StanzaBack, StanzasBack}
use Rattle.manifest_file.specs.declared.bearers.Bearers.{Bearers}
use Rattle.manifest_file.specs.declared.entry.Entry.{Entry}
use Rattle.manifest_file.specs.declared.dependencies.Dependencies.TheVariants.{Names}
use Rattle.manifest_file.specs.declared.origin.Origin.{Origin}
use Rattle.manifest_file.specs.declared.origin.Origin.TheVariants.{Tree, Path, Repo, Std}
use Rattle.manifest_file.proofs.Orders.{entry_is}
use Rattle.manifest_file.proofs.ValuesBack.{uuid_back, version_back, extensions_back, flag_back, text_back, listing, dependencies_back, ids_resolved}

-- ---- what stands at a key

abbrev pub or_else : Option Data → Option Data → Option Data
or_else None other = other
or_else (Some value) other = Some value

pub or_none : (o : Option Data) → or_else o None ≡ o
or_none None = refl
or_none (Some value) = refl

abbrev pub found : List ℕ → spec.Puts → Option Data
found key [] = None
found key (put ∷ puts) = match_ordering (slice_cmp nat_cmp key put.0) (found key puts) (or_else put.1 (found key puts)) (found key puts)

pub get_found : (key : List ℕ) (puts : spec.Puts) → get_member key (spec.members_opt puts) ≡ found key puts
get_found key [] = refl
get_found key ((k, None) ∷ puts) = get_found key puts ∙ same (slice_cmp nat_cmp key k) (found key puts)
  where
    same : (o : Ordering) (r : Option Data) → r ≡ match_ordering o r r r
    same Less r = refl
    same Equal r = refl
    same Greater r = refl
get_found key ((k, Some d) ∷ puts) = ap (λ r. match_ordering (slice_cmp nat_cmp key k) r (Some d) r) (get_found key puts)

-- ---- where a package comes from

abbrev pub tree_said : Origin → Option (List ℕ)
tree_said (Tree tree) = Some tree
tree_said (Path path) = None
tree_said (Repo url rev subdir tree) = Some tree
tree_said Std = None

abbrev pub path_said : Origin → Option (List ℕ)
path_said (Tree tree) = None
path_said (Path path) = Some path
path_said (Repo url rev subdir tree) = None
path_said Std = None

abbrev pub url_said : Origin → Option (List ℕ)
url_said (Tree tree) = None
url_said (Path path) = None
url_said (Repo url rev subdir tree) = Some url
url_said Std = None

abbrev pub rev_said : Origin → Option (List ℕ)
rev_said (Tree tree) = None
rev_said (Path path) = None
rev_said (Repo url rev subdir tree) = rev
rev_said Std = None

abbrev pub subdir_said : Origin → Option (List ℕ)
subdir_said (Tree tree) = None
subdir_said (Path path) = None
subdir_said (Repo url rev subdir tree) = subdir
subdir_said Std = None

origin_is : (o : Origin) → origin_of (path_said o) (url_said o) (rev_said o) (subdir_said o) (tree_said o) ≡ o
origin_is (Tree tree) = refl
origin_is (Path path) = refl
origin_is (Repo url rev subdir tree) = refl
origin_is Std = refl

path_back : (key : List ℕ) (o : Origin) → opt_at text_of key (spec.path_data o) ≡ Ok (path_said o)
path_back key (Tree tree) = refl
path_back key (Path path) = refl
path_back key (Repo url rev subdir tree) = refl
path_back key Std = refl

url_back : (key : List ℕ) (o : Origin) → opt_at text_of key (spec.url_data o) ≡ Ok (url_said o)
url_back key (Tree tree) = refl
url_back key (Path path) = refl
url_back key (Repo url rev subdir tree) = refl
url_back key Std = refl

rev_back : (key : List ℕ) (o : Origin) → opt_at text_of key (spec.rev_data o) ≡ Ok (rev_said o)
rev_back key (Tree tree) = refl
rev_back key (Path path) = refl
rev_back key (Repo url rev subdir tree) = text_back key rev
rev_back key Std = refl

subdir_back : (key : List ℕ) (o : Origin) → opt_at text_of key (spec.subdir_data o) ≡ Ok (subdir_said o)
subdir_back key (Tree tree) = refl
subdir_back key (Path path) = refl
subdir_back key (Repo url rev subdir tree) = text_back key subdir
subdir_back key Std = refl

-- the tree, by what stands at three keys
abbrev tree_by : Option Data → Option Data → Option Data → Result (Option (List ℕ)) Refusal
tree_by path url tree =
    if not (is_some path) && is_some url then mapped (λ t. Some t) (need_at tree_id_of (codes "git-tree-sha1") tree)
    else opt_at tree_id_of (codes "git-tree-sha1") tree

tree_id_back : (tree : List ℕ) → TreeBack tree → tree_id_of (string (tree_text tree)) ≡ Ok tree
tree_id_back tree back = ap or_shape back

tree_back : (o : Origin) → OriginBack o → tree_by (spec.path_data o) (spec.url_data o) (spec.tree_data o) ≡ Ok (tree_said o)
tree_back (Tree tree) back = ap (λ r. mapped (λ t. Some t) (at (codes "git-tree-sha1") r)) (tree_id_back tree back)
tree_back (Path path) back = refl
tree_back (Repo url rev subdir tree) back = ap (λ r. mapped (λ t. Some t) (at (codes "git-tree-sha1") r)) (tree_id_back tree back)
tree_back Std back = refl

-- ---- a stanza

-- a stanza as it is read
abbrev pub entry_said : (List ℕ → Bearers) → SaidStanza → Entry
entry_said bearers s = record {
  uuid = s.uuid;
  version = s.version;
  origin = s.origin;
  pinned = s.pinned;
  deps = listing (spec.are_listable bearers s.deps) s.deps;
  weakdeps = listing (spec.are_listable bearers s.weakdeps) s.weakdeps;
  extensions = s.extensions;
}

pub entry_back : (bearers : List ℕ → Bearers) (s : SaidStanza) → StanzaBack bearers s → entry_of (spec.stanza_data bearers s) ≡ Ok (entry_said bearers s)
entry_back bearers s back =
    entry_is ms
    ∙ (λ i. both (fronts (deps_b i) (extensions_b i) (tree_b i) (path_b i) (pinned_b i)) (backs (rev_b i) (subdir_b i) (url_b i) (uuid_b i) (version_b i) (weakdeps_b i)))
    ∙ ap (λ o. Ok (record {
      uuid = s.uuid;
      version = s.version;
      origin = o;
      pinned = s.pinned;
      deps = listing (spec.are_listable bearers s.deps) s.deps;
      weakdeps = listing (spec.are_listable bearers s.weakdeps) s.weakdeps;
      extensions = s.extensions;
    })) (origin_is s.origin)
  where
    puts : spec.Puts
    puts = spec.stanza_puts bearers s

    ms : Members
    ms = spec.members_opt puts

    here : (key : List ℕ) (value : Option Data) → found key puts ≡ or_else value None → get_member key ms ≡ value
    here key value e = get_found key puts ∙ e ∙ or_none value

    deps_b : dependencies_at (codes "deps") ms ≡ Ok (listing (spec.are_listable bearers s.deps) s.deps)
    deps_b = ap (λ o. mapped (λ f. unwrap_or f (Names [])) (opt_at dependencies_of (codes "deps") o)) (here (codes "deps") (spec.dependencies_data bearers s.deps) refl) ∙ dependencies_back bearers (codes "deps") s.deps back.deps

    extensions_b : table_at texts_of (codes "extensions") ms ≡ Ok s.extensions
    extensions_b = ap (λ o. mapped or_empty (opt_at (table_of texts_of) (codes "extensions") o)) (here (codes "extensions") (spec.extensions_data s.extensions) refl) ∙ extensions_back (codes "extensions") s.extensions

    tree_b : tree_at ms ≡ Ok (tree_said s.origin)
    tree_b =
        (λ i. tree_by (here (codes "path") (spec.path_data s.origin) refl i) (here (codes "repo-url") (spec.url_data s.origin) refl i) (here (codes "git-tree-sha1") (spec.tree_data s.origin) refl i))
        ∙ tree_back s.origin back.origin

    path_b : opt text_of (codes "path") ms ≡ Ok (path_said s.origin)
    path_b = ap (opt_at text_of (codes "path")) (here (codes "path") (spec.path_data s.origin) refl) ∙ path_back (codes "path") s.origin

    pinned_b : flag_at (codes "pinned") ms ≡ Ok s.pinned
    pinned_b = ap (λ o. mapped (λ f. unwrap_or f false) (opt_at flag_of (codes "pinned") o)) (here (codes "pinned") (spec.flag_data s.pinned) refl) ∙ flag_back (codes "pinned") s.pinned

    rev_b : opt text_of (codes "repo-rev") ms ≡ Ok (rev_said s.origin)
    rev_b = ap (opt_at text_of (codes "repo-rev")) (here (codes "repo-rev") (spec.rev_data s.origin) refl) ∙ rev_back (codes "repo-rev") s.origin

    subdir_b : opt text_of (codes "repo-subdir") ms ≡ Ok (subdir_said s.origin)
    subdir_b = ap (opt_at text_of (codes "repo-subdir")) (here (codes "repo-subdir") (spec.subdir_data s.origin) refl) ∙ subdir_back (codes "repo-subdir") s.origin

    url_b : opt text_of (codes "repo-url") ms ≡ Ok (url_said s.origin)
    url_b = ap (opt_at text_of (codes "repo-url")) (here (codes "repo-url") (spec.url_data s.origin) refl) ∙ url_back (codes "repo-url") s.origin

    uuid_b : need uuid_of (codes "uuid") ms ≡ Ok s.uuid
    uuid_b = ap (need_at uuid_of (codes "uuid")) (here (codes "uuid") (Some (spec.uuid_data s.uuid)) refl) ∙ ap (at (codes "uuid")) (uuid_back s.uuid back.uuid)

    version_b : opt version_at (codes "version") ms ≡ Ok s.version
    version_b = ap (opt_at version_at (codes "version")) (here (codes "version") (option_map spec.version_data s.version) refl) ∙ version_back (codes "version") s.version back.version

    weakdeps_b : dependencies_at (codes "weakdeps") ms ≡ Ok (listing (spec.are_listable bearers s.weakdeps) s.weakdeps)
    weakdeps_b =
        ap (λ o. mapped (λ f. unwrap_or f (Names [])) (opt_at dependencies_of (codes "weakdeps") o)) (here (codes "weakdeps") (spec.dependencies_data bearers s.weakdeps) refl)
        ∙ dependencies_back bearers (codes "weakdeps") s.weakdeps back.weakdeps

-- those of one name
pub list_back : (bearers : List ℕ → Bearers) (ss : List SaidStanza) → StanzasBack bearers ss → list_of entry_of (spec.group_data bearers ss) ≡ Ok (map (entry_said bearers) ss)
list_back bearers ss back = items ss back
  where
    items : (ss : List SaidStanza) → StanzasBack bearers ss → items_read entry_of (items_of (map (spec.stanza_data bearers) ss)) ≡ Ok (map (entry_said bearers) ss)
    items [] back = refl
    items (s ∷ ss) back =
        ap (chained (λ v. mapped (λ vs. v ∷ vs) (items_read entry_of (items_of (map (spec.stanza_data bearers) ss))))) (entry_back bearers s back.0)
        ∙ ap (mapped (λ vs. entry_said bearers s ∷ vs)) (items ss back.1)

-- the stanzas with their names are resolved to what was written
pub stanzas_resolved : (bearers : List ℕ → Bearers) (ss : List SaidStanza) → StanzasBack bearers ss
    → all_read (stanza_of bearers) (map (λ s. (s.name, entry_said bearers s)) ss) ≡ Ok ss
stanzas_resolved bearers [] back = refl
stanzas_resolved bearers (s ∷ ss) back =
    ap (λ r. then_read r (λ v. then_read (all_read (stanza_of bearers) (map (λ t. (t.name, entry_said bearers t)) ss)) (λ vs. Ok (v ∷ vs)))) (one s back.0)
    ∙ ap (λ r. then_read r (λ vs. Ok (s ∷ vs))) (stanzas_resolved bearers ss back.1)
  where
    one : (s : SaidStanza) → StanzaBack bearers s → stanza_of bearers (s.name, entry_said bearers s) ≡ Ok s
    one s back =
        ap (λ r. then_read r (λ deps. then_read (ids_of bearers s.name (listing (spec.are_listable bearers s.weakdeps) s.weakdeps)) (λ weak. Ok (stanza_with s.name (entry_said bearers s) deps weak))))
        (ids_resolved bearers s.name s.deps back.deps)
        ∙ ap (λ r. then_read r (λ weak. Ok (stanza_with s.name (entry_said bearers s) s.deps weak))) (ids_resolved bearers s.name s.weakdeps back.weakdeps)
