-- Which identifiers a catalog has under a name, and that they rise.
use Rattle.std.proofs.Common.{◌≡◌, ℕ, Bool, true, false, cond, ◌&&◌, ◌||◌, List, [], ◌∷◌, map, filter, fold, refl, sym, ap, ◌∙◌}
use Rattle.std.specs.BTreeMap.{is_at}
use Rattle.std.specs.BTreeSet.{insert_key}
use Rattle.std.specs.Cmp.Lexicographic.{nat_list_cmp_total}
use Rattle.std.specs.List.{list_any}
use Rattle.std.specs.List.Sorted.{IsStrictlySortedBy}
use Rattle.std.specs.Ordering.{is_eq}
use Rattle.std.specs.Str.{bytes_eq}
use Rattle.std.proofs.lemmas.Map.Text.{is_eq-slice_cmp}
use Rattle.package_tables.specs.Row.{by_bytes}
use Rattle.registry_tables.specs.Registry.{Registered}
use Rattle.registry_tables.specs.declared.package_list.Package.{Package}
use Rattle.standard_libraries.specs.SaidLibrary.{SaidLibrary}
use Rattle.offer_terms.specs.Demanded.{FixedSaid}
use Rattle.registry_tables.proofs.Ordered.{among-insert, sorted-key}
use Rattle.offer_catalog.specs.Laws.{lists, has_named, IdsAreThoseNamed, IdsRise}
use Rattle.offer_catalog.specs.Named.{listed_ids, library_ids, fixed_ids, put_ids, put_registry, ids_named}
use Rattle.offer_catalog.specs.SaidCatalog.{SaidCatalog}

or_turned : (a b c : Bool) → ((a || b) || c) ≡ (b || (a || c))
or_turned true true c = refl
or_turned true false c = refl
or_turned false b c = refl

or_assoc : (a b c : Bool) → ((a || b) || c) ≡ (a || (b || c))
or_assoc true b c = refl
or_assoc false b c = refl

or_none : (b : Bool) → b ≡ (b || false)
or_none true = refl
or_none false = refl

-- what is picked of a list and taken by its identifier
picked : {A : Type 0} (take : A → Bool) (id : A → List ℕ) (test : List ℕ → Bool) (xs : List A) → list_any test (map id (filter take xs)) ≡ list_any (λ x. take x && test (id x)) xs
picked take id test [] = refl
picked take id test (x ∷ xs) = by (take x) (list_any (λ x. take x && test (id x)) xs) (picked take id test xs)
  where
    by : (t more : Bool) → list_any test (map id (filter take xs)) ≡ more → list_any test (map id (cond t (x ∷ filter take xs) (filter take xs))) ≡ ((t && test (id x)) || more)
    by true more h = ap (λ b. test (id x) || b) h
    by false more h = h

module _ (q : List ℕ) where
  abbrev is_q : List ℕ → Bool
  is_q = is_at (by_bytes q)

  among-put : (ids more : List (List ℕ)) → list_any is_q (put_ids ids more) ≡ (list_any is_q ids || list_any is_q more)
  among-put ids [] = or_none (list_any is_q ids)
  among-put ids (k ∷ ks) =
      among-put (insert_key by_bytes ids k) ks ∙ ap (λ b. b || list_any is_q ks) (among-insert by_bytes nat_list_cmp_total q k ids)
      ∙ or_turned (is_q k) (list_any is_q ids) (list_any is_q ks)

  among-registries : (name : List ℕ) (ids : List (List ℕ)) (registries : List Registered)
      → list_any is_q (fold (put_registry name) ids registries) ≡ (list_any is_q ids || list_any (lists name is_q) registries)
  among-registries name ids [] = or_none (list_any is_q ids)
  among-registries name ids (registry ∷ more) =
      among-registries name (put_registry name ids registry) more
      ∙ ap (λ b. b || list_any (lists name is_q) more) (among-put ids (listed_ids name registry.packages)
      ∙ ap (λ b. list_any is_q ids || b) (picked (λ (it : Package). bytes_eq it.name name) (λ (it : Package). it.uuid) is_q registry.packages))
      ∙ or_assoc (list_any is_q ids) (lists name is_q registry) (list_any (lists name is_q) more)

  among-named : (catalog : SaidCatalog) (name : List ℕ) → list_any is_q (ids_named catalog name) ≡ has_named catalog name is_q
  among-named catalog name =
      let registries = fold (put_registry name) [] catalog.registries in
      among-put (put_ids registries (library_ids name catalog.libraries)) (fixed_ids name catalog.fixed)
      ∙ ap (λ b. b || list_any is_q (fixed_ids name catalog.fixed)) (among-put registries (library_ids name catalog.libraries))
      ∙ (λ i. (among-registries name [] catalog.registries i
      || picked (λ (entry : List ℕ × SaidLibrary). bytes_eq entry.1.name name) (λ (entry : List ℕ × SaidLibrary). entry.0) is_q catalog.libraries i)
      || picked (λ (it : FixedSaid). bytes_eq it.name name) (λ (it : FixedSaid). it.uuid) is_q catalog.fixed i)

pub ids-named : IdsAreThoseNamed
ids-named catalog name id =
    let same : list_any (is_at (by_bytes id)) (ids_named catalog name) ≡ list_any (bytes_eq id) (ids_named catalog name) = λ i. list_any (λ k. is_eq-slice_cmp id k i) (ids_named catalog name) in
    sym same ∙ among-named id catalog name ∙ (λ i. has_named catalog name (λ k. is_eq-slice_cmp id k i))

sorted-put : (ids more : List (List ℕ)) → IsStrictlySortedBy by_bytes ids → IsStrictlySortedBy by_bytes (put_ids ids more)
sorted-put ids [] rise = rise
sorted-put ids (k ∷ ks) rise = sorted-put (insert_key by_bytes ids k) ks (sorted-key by_bytes nat_list_cmp_total k ids rise)

sorted-registries : (name : List ℕ) (ids : List (List ℕ)) (registries : List Registered) → IsStrictlySortedBy by_bytes ids → IsStrictlySortedBy by_bytes (fold (put_registry name) ids registries)
sorted-registries name ids [] rise = rise
sorted-registries name ids (registry ∷ more) rise = sorted-registries name (put_registry name ids registry) more (sorted-put ids (listed_ids name registry.packages) rise)

pub ids-rise : IdsRise
unfolding IsStrictlySortedBy
ids-rise catalog name =
    sorted-put (put_ids (fold (put_registry name) [] catalog.registries) (library_ids name catalog.libraries)) (fixed_ids name catalog.fixed)
    (sorted-put (fold (put_registry name) [] catalog.registries) (library_ids name catalog.libraries) (sorted-registries name [] catalog.registries tt))
