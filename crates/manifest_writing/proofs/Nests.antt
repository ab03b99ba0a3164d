-- The table of a manifest nests six deep, and no date stands in it.
use Rattle.std.proofs.Common.{◌≡◌, ℕ, ◌+◌, ◌≤◌, ◌&&◌, Bool, true, false, cond, List, [], ◌∷◌, map, codes, Option, Some, None, option_map, refl, arith, lit≤}
use Rattle.std.specs.List.{AllByRecursion}
use Rattle.std.proofs.Math.Nat.{max-le}
use Rattle.jl_versions.specs.declared.version.Version.{Version}
use Rattle.toml.specs.Data.{Data, string, array, table, Members, depth, items_depth, members_depth, has_valid_dates, items_have_valid_dates, members_have_valid_dates}
use Rattle.toml.specs.View.{items_of}
use Rattle.toml_view.specs.Document.{nesting, nesting_limit}
use Rattle.manifest_file.specs.Saying.{SaidStanza, Said}
use Rattle.manifest_file.specs.Written.{Puts, members_opt, are_listable, names_data, id_put, ids_data, dependencies_data, triggers_put, extensions_data, flag_data, tree_data, path_data, url_data, rev_data, subdir_data, version_data, stanza_puts, stanza_data, grouped, group_data, group_put, stanzas_data, bearers_among, written}
use Rattle.manifest_file.specs.declared.origin.Origin.{Origin}
use Rattle.manifest_file.specs.declared.origin.Origin.TheVariants.{Tree, Path, Repo, Std}

-- a value that nests so deep at most, without a date
record IsPlain (n : ℕ) (d : Data) : Type 0 where
  deep : depth d ≤ n
  dated : has_valid_dates d ≡ true

abbrev ArePlain : ℕ → Option Data → Type 0
ArePlain n None = Unit {0}
ArePlain n (Some d) = IsPlain n d

both : (a b : Bool) → a ≡ true → b ≡ true → (a && b) ≡ true
both true b first second = second
both false b first second = first

-- ---- tables and lists nest one deeper

record HasPlain (n : ℕ) (ms : Members) : Type 0 where
  deep : members_depth ms ≤ n
  dated : members_have_valid_dates ms ≡ true

members_plain : (n : ℕ) (puts : Puts) → AllByRecursion (λ (p : List ℕ × Option Data). ArePlain n p.1) puts → HasPlain n (members_opt puts)
members_plain n [] all = record { deep = omega arith; dated = refl }
members_plain n ((key, None) ∷ puts) all = members_plain n puts all.1
members_plain n ((key, Some d) ∷ puts) all =
    let rest = members_plain n puts all.1 in
    record { deep = max-le all.0.deep rest.deep; dated = both (has_valid_dates d) (members_have_valid_dates (members_opt puts)) all.0.dated rest.dated }

table_plain : (n : ℕ) (puts : Puts) → AllByRecursion (λ (p : List ℕ × Option Data). ArePlain n p.1) puts → IsPlain (n + 1) (table (members_opt puts))
table_plain n puts all =
    let has = members_plain n puts all in
    let deep : members_depth (members_opt puts) ≤ n = has.deep in
    record { deep = omega (arith, deep); dated = has.dated }

array_plain : (n : ℕ) (ds : List Data) → AllByRecursion (IsPlain n) ds → IsPlain (n + 1) (array (items_of ds))
array_plain n ds all =
    let has = items_plain ds all in
    let deep : items_depth (items_of ds) ≤ n = has.0 in
    record { deep = omega (arith, deep); dated = has.1 }
  where
    items_plain : (ds : List Data) → AllByRecursion (IsPlain n) ds → (items_depth (items_of ds) ≤ n) × (items_have_valid_dates (items_of ds) ≡ true)
    items_plain [] all = (omega arith, refl)
    items_plain (d ∷ ds) all =
        let rest = items_plain ds all.1 in
        (max-le all.0.deep rest.0, both (has_valid_dates d) (items_have_valid_dates (items_of ds)) all.0.dated rest.1)

all_mapped : {X Y : Type 0} (P : Y → Type 0) (f : X → Y) → ((x : X) → P (f x)) → (xs : List X) → AllByRecursion P (map f xs)
all_mapped P f each [] = tt
all_mapped P f each (x ∷ xs) = (each x, all_mapped P f each xs)

-- ---- the values of a stanza

text_plain : (n : ℕ) (text : List ℕ) → IsPlain n (string text)
text_plain n text = record { deep = omega arith; dated = refl }

opt_text_plain : (n : ℕ) (o : Option (List ℕ)) → ArePlain n (option_map string o)
opt_text_plain n None = tt
opt_text_plain n (Some text) = text_plain n text

version_plain : (n : ℕ) (o : Option Version) → ArePlain n (option_map version_data o)
version_plain n None = tt
version_plain n (Some version) = record { deep = omega arith; dated = refl }

names_plain : (names : List (List ℕ)) → IsPlain 1 (names_data names)
names_plain names = array_plain 0 (map string names) (all_mapped (IsPlain 0) string (text_plain 0) names)

ids_plain : (ids : List (List ℕ × List ℕ)) → IsPlain 1 (ids_data ids)
ids_plain ids = table_plain 0 (map id_put ids) (all_mapped (λ (p : List ℕ × Option Data). ArePlain 0 p.1) id_put (λ pair. record { deep = omega arith; dated = refl }) ids)

deeper : (m n : ℕ) (d : Data) → m ≤ n → IsPlain m d → IsPlain n d
deeper m n d le plain = record { deep = let deep : depth d ≤ m = plain.deep in omega (arith, deep, le); dated = plain.dated }

dependencies_plain : (among : List SaidStanza) (ids : List (List ℕ × List ℕ)) → ArePlain 2 (dependencies_data (bearers_among among) ids)
dependencies_plain among [] = tt
dependencies_plain among (pair ∷ more) =
    let ids = pair ∷ more in
    elim (are_listable (bearers_among among) ids) as (λ b. IsPlain 2 (cond b (names_data (map (λ pair. pair.0) ids)) (ids_data ids))) [
      | true ↦ deeper 1 2 _ (lit≤ tt) (names_plain (map (λ pair. pair.0) ids))
      | false ↦ deeper 1 2 _ (lit≤ tt) (ids_plain ids)
    ]

extensions_plain : (extensions : List (List ℕ × List (List ℕ))) → ArePlain 2 (extensions_data extensions)
extensions_plain [] = tt
extensions_plain (extension ∷ more) =
    table_plain 1 (map triggers_put (extension ∷ more)) (all_mapped (λ (p : List ℕ × Option Data). ArePlain 1 p.1) triggers_put (λ extension. names_plain extension.1) (extension ∷ more))

flag_plain : (n : ℕ) (b : Bool) → ArePlain n (flag_data b)
flag_plain n true = record { deep = omega arith; dated = refl }
flag_plain n false = tt

tree_plain : (n : ℕ) (o : Origin) → ArePlain n (tree_data o)
tree_plain n (Tree tree) = record { deep = omega arith; dated = refl }
tree_plain n (Path path) = tt
tree_plain n (Repo url rev subdir tree) = record { deep = omega arith; dated = refl }
tree_plain n Std = tt

path_plain : (n : ℕ) (o : Origin) → ArePlain n (path_data o)
path_plain n (Tree tree) = tt
path_plain n (Path path) = text_plain n path
path_plain n (Repo url rev subdir tree) = tt
path_plain n Std = tt

url_plain : (n : ℕ) (o : Origin) → ArePlain n (url_data o)
url_plain n (Tree tree) = tt
url_plain n (Path path) = tt
url_plain n (Repo url rev subdir tree) = text_plain n url
url_plain n Std = tt

rev_plain : (n : ℕ) (o : Origin) → ArePlain n (rev_data o)
rev_plain n (Tree tree) = tt
rev_plain n (Path path) = tt
rev_plain n (Repo url rev subdir tree) = opt_text_plain n rev
rev_plain n Std = tt

subdir_plain : (n : ℕ) (o : Origin) → ArePlain n (subdir_data o)
subdir_plain n (Tree tree) = tt
subdir_plain n (Path path) = tt
subdir_plain n (Repo url rev subdir tree) = opt_text_plain n subdir
subdir_plain n Std = tt

-- ---- a stanza, those of a name, and all

stanza_plain : (among : List SaidStanza) (t : SaidStanza) → IsPlain 3 (stanza_data (bearers_among among) t)
stanza_plain among t =
    table_plain 2 (stanza_puts (bearers_among among) t) (
      dependencies_plain among t.deps,
      (
        extensions_plain t.extensions,
        (
          tree_plain 2 t.origin,
          (
            path_plain 2 t.origin,
            (
              flag_plain 2 t.pinned,
              (
                rev_plain 2 t.origin,
                (subdir_plain 2 t.origin, (url_plain 2 t.origin, (record { deep = omega arith; dated = refl }, (version_plain 2 t.version, (dependencies_plain among t.weakdeps, tt))))),
              ),
            ),
          ),
        ),
      ),
    )

group_plain : (among : List SaidStanza) (stanzas : List SaidStanza) → IsPlain 4 (group_data (bearers_among among) stanzas)
group_plain among stanzas = array_plain 3 (map (stanza_data (bearers_among among)) stanzas) (all_mapped (IsPlain 3) (stanza_data (bearers_among among)) (stanza_plain among) stanzas)

stanzas_plain : (among : List SaidStanza) (stanzas : List SaidStanza) → IsPlain 5 (stanzas_data (bearers_among among) stanzas)
stanzas_plain among stanzas =
    table_plain 4 (map (group_put (bearers_among among)) (grouped stanzas)) (all_mapped (λ (p : List ℕ × Option Data). ArePlain 4 p.1) (group_put (bearers_among among)) (λ group. group_plain among group.1) (grouped stanzas))

written_plain : (m : Said) → HasPlain 5 (written m)
written_plain m =
    let puts : Puts =
    (codes "deps", Some (stanzas_data (bearers_among m.stanzas) m.stanzas)) ∷ (codes "julia_version", option_map version_data m.julia_version)
    ∷ (codes "manifest_format", Some (string (codes "2.0"))) ∷ [] in
    members_plain 5 puts (stanzas_plain m.stanzas m.stanzas, (version_plain 5 m.julia_version, (text_plain 5 (codes "2.0"), tt)))

-- the table of a manifest is one that can be printed
pub written_nests : (m : Said) → nesting (written m) ≤ nesting_limit
written_nests m = let deep : members_depth (written m) ≤ 5 = (written_plain m).deep in omega (arith, deep)

pub written_dated : (m : Said) → members_have_valid_dates (written m) ≡ true
written_dated m = (written_plain m).dated
