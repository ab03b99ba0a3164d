-- The values of a stanza read back.
use Rattle.std.proofs.Common.{◌≡◌, ℕ, Bool, true, false, ◌&&◌, if◌then◌else◌, List, [], ◌∷◌, map, Option, Some, None, unwrap_or, option_map, Ok, Less, Equal, Greater, Ordering, refl, ap, ◌∙◌, rules}
use Rattle.std.specs.Ordering.{nat_cmp, is_lt}
use Rattle.std.specs.Cmp.Lexicographic.{slice_cmp}
use Rattle.std.specs.FinMap.Entries.{put, by_order, below_all}
use Rattle.std.proofs.lemmas.Slice.Eq.{bytes_eq-Decides}
use Rattle.toml.specs.Data.{string}
use Rattle.toml.specs.View.{items_of}
use Rattle.toml_view.specs.Causes.{then_read}
use Rattle.toml_view.specs.Reading.{text_of, uuid_of, flag_of, version_at, or_version, texts_of, or_shape, or_empty, at, chained, mapped, opt_at, items_read, table_of, each}
use Rattle.jl_versions.specs.declared.version.Version.{Version}
use Rattle.pkg_world.specs.ByName.{is_by_name}
use Rattle.manifest_file.specs.Saying.{all_read, the_one, listed_id, in_name_order, ids_of}
use Rattle.manifest_file.specs.Values.{dependencies_of}
use Rattle.manifest_file.specs.Written.{members_opt, id_put, triggers_put, uuid_data, version_data, names_data, ids_data, dependencies_data, extensions_data, flag_data, are_listable, is_the_one}
use Rattle.manifest_file.specs.ReadsBack.{UuidBack, VersionBack, IdsBack, DependenciesBack}
use Rattle.manifest_file.specs.declared.bearers.Bearers.{Bearers}
use Rattle.manifest_file.specs.declared.bearers.Bearers.TheVariants.{Nobody, One, Several}
use Rattle.manifest_file.specs.declared.dependencies.Dependencies.{Dependencies}
use Rattle.manifest_file.specs.declared.dependencies.Dependencies.TheVariants.{Names, Ids}

left_true : (a b : Bool) → (a && b) ≡ true → a ≡ true
left_true true b e = refl
left_true false b e = e

right_true : (a b : Bool) → (a && b) ≡ true → b ≡ true
right_true true b e = e
right_true false b e = cc

pub uuid_back : (id : List ℕ) → UuidBack id → uuid_of (uuid_data id) ≡ Ok id
uuid_back id back = ap or_shape back

pub version_back : (key : List ℕ) (version : Option Version) → VersionBack version → opt_at version_at key (option_map version_data version) ≡ Ok version
version_back key None back = refl
version_back key (Some version) back = ap (λ r. mapped (λ v. Some v) (at key (or_version r))) back

names_back : (names : List (List ℕ)) → items_read text_of (items_of (map string names)) ≡ Ok names
names_back [] = refl
names_back (name ∷ names) = ap (mapped (λ vs. name ∷ vs)) (names_back names)

ids_back : (ids : List (List ℕ × List ℕ)) → IdsBack ids → each uuid_of (members_opt (map id_put ids)) ≡ Ok ids
ids_back [] back = refl
ids_back (pair ∷ ids) back =
    ap (λ r. chained (λ v. mapped (λ vs. (pair.0, v) ∷ vs) (each uuid_of (members_opt (map id_put ids)))) (at pair.0 r)) (uuid_back pair.1 back.0)
    ∙ ap (mapped (λ vs. pair ∷ vs)) (ids_back ids back.1)

triggers_back : (extensions : List (List ℕ × List (List ℕ))) → each texts_of (members_opt (map triggers_put extensions)) ≡ Ok extensions
triggers_back [] = refl
triggers_back (e ∷ es) =
    ap (λ r. chained (λ v. mapped (λ vs. (e.0, v) ∷ vs) (each texts_of (members_opt (map triggers_put es)))) (at e.0 r)) (names_back e.1)
    ∙ ap (mapped (λ vs. e ∷ vs)) (triggers_back es)

pub extensions_back : (key : List ℕ) (extensions : List (List ℕ × List (List ℕ))) → mapped or_empty (opt_at (table_of texts_of) key (extensions_data extensions)) ≡ Ok extensions
extensions_back key [] = refl
extensions_back key (e ∷ es) = ap (λ r. mapped or_empty (mapped (λ v. Some v) (at key r))) (triggers_back (e ∷ es))

pub flag_back : (key : List ℕ) (flag : Bool) → mapped (λ found. unwrap_or found false) (opt_at flag_of key (flag_data flag)) ≡ Ok flag
flag_back key true = refl
flag_back key false = refl

pub text_back : (key : List ℕ) (text : Option (List ℕ)) → opt_at text_of key (option_map string text) ≡ Ok text
text_back key None = refl
text_back key (Some text) = refl

-- ---- dependencies

-- dependencies as they are read
abbrev pub listing : Bool → List (List ℕ × List ℕ) → Dependencies
listing listed ids = if listed then Names (map (λ pair. pair.0) ids) else Ids ids

pub dependencies_back : (bearers : List ℕ → Bearers) (key : List ℕ) (ids : List (List ℕ × List ℕ)) → DependenciesBack bearers ids
    → mapped (λ found. unwrap_or found (Names [])) (opt_at dependencies_of key (dependencies_data bearers ids)) ≡ Ok (listing (are_listable bearers ids) ids)
dependencies_back bearers key [] back = refl
dependencies_back bearers key (pair ∷ pairs) back = go (are_listable bearers (pair ∷ pairs)) back.1
  where
    go : (b : Bool) → (b ≡ false → IdsBack (pair ∷ pairs))
        → mapped (λ found. unwrap_or found (Names [])) (opt_at dependencies_of key (Some (if b then names_data (map (λ q. q.0) (pair ∷ pairs)) else ids_data (pair ∷ pairs)))) ≡ Ok (listing b (pair ∷ pairs))
    go true those = ap (λ r. mapped (λ found. unwrap_or found (Names [])) (mapped (λ v. Some v) (at key (mapped (λ names. Names names) r)))) (names_back (map (λ q. q.0) (pair ∷ pairs)))
    go false those = ap (λ r. mapped (λ found. unwrap_or found (Names [])) (mapped (λ v. Some v) (at key (mapped (λ found. Ids found) r)))) (ids_back (pair ∷ pairs) (those refl))

the_one_is : (b : Bearers) (id : List ℕ) → is_the_one b id ≡ true → b ≡ One id
the_one_is Nobody id h = cc
the_one_is (One other) id h = let same : other ≡ id = search (rules, bytes_eq-Decides) in ap One same
the_one_is Several id h = cc

listed_back : (bearers : List ℕ → Bearers) (from : List ℕ) (ids : List (List ℕ × List ℕ)) → are_listable bearers ids ≡ true
    → all_read (listed_id bearers from) (map (λ pair. pair.0) ids) ≡ Ok ids
listed_back bearers from [] h = refl
listed_back bearers from (pair ∷ ids) h =
    let one = the_one_is (bearers pair.0) pair.1 (left_true (is_the_one (bearers pair.0) pair.1) (are_listable bearers ids) h) in
    ap (λ b. then_read (then_read (the_one from pair.0 b) (λ id. Ok (pair.0, id))) (λ v. then_read (all_read (listed_id bearers from) (map (λ q. q.0) ids)) (λ vs. Ok (v ∷ vs)))) one
    ∙ ap (λ r. then_read r (λ vs. Ok (pair ∷ vs))) (listed_back bearers from ids (right_true (is_the_one (bearers pair.0) pair.1) (are_listable bearers ids) h))

less_from : (o : Ordering) → is_lt o ≡ true → o ≡ Less
less_from Less h = refl
less_from Equal h = cc
less_from Greater h = cc

put_below : (pair : List ℕ × List ℕ) (pairs : List (List ℕ × List ℕ)) → below_all (slice_cmp nat_cmp) pair.0 pairs ≡ true → put (slice_cmp nat_cmp) pair.0 pair.1 pairs ≡ pair ∷ pairs
put_below pair [] h = refl
put_below pair (q ∷ qs) h =
    ap (λ o. by_order o ((pair.0, pair.1) ∷ q ∷ qs) ((q.0, pair.1) ∷ qs) (q ∷ put (slice_cmp nat_cmp) pair.0 pair.1 qs))
    (less_from (slice_cmp nat_cmp pair.0 q.0) (left_true (is_lt (slice_cmp nat_cmp pair.0 q.0)) (below_all (slice_cmp nat_cmp) pair.0 qs) h))

ordered_stays : (pairs : List (List ℕ × List ℕ)) → is_by_name pairs ≡ true → in_name_order pairs ≡ pairs
ordered_stays [] h = refl
ordered_stays (pair ∷ pairs) h =
    ap (put (slice_cmp nat_cmp) pair.0 pair.1) (ordered_stays pairs (right_true (below_all (slice_cmp nat_cmp) pair.0 pairs) (is_by_name pairs) h))
    ∙ put_below pair pairs (left_true (below_all (slice_cmp nat_cmp) pair.0 pairs) (is_by_name pairs) h)

-- the names and identifiers that were written are resolved to the dependencies
pub ids_resolved : (bearers : List ℕ → Bearers) (from : List ℕ) (ids : List (List ℕ × List ℕ)) → DependenciesBack bearers ids
    → ids_of bearers from (listing (are_listable bearers ids) ids) ≡ Ok ids
ids_resolved bearers from ids back = go (are_listable bearers ids) refl
  where
    go : (b : Bool) → are_listable bearers ids ≡ b → ids_of bearers from (listing b ids) ≡ Ok ids
    go true listed = ap (λ r. then_read r (λ pairs. Ok (in_name_order pairs))) (listed_back bearers from ids listed) ∙ ap Ok (ordered_stays ids back.0)
    go false listed = refl
