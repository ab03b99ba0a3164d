-- The identifiers that a catalog has under a name: those of packages that a registry lists, of standard libraries and of
-- fixed packages. (Own rule.)
--     ids_named catalog name     these identifiers, in the order of their bytes and each once
use Rattle.std.specs.Prelude.{ℕ, Bool, List, [], map, filter, fold}
use Rattle.std.specs.BTreeSet.{insert_key}
use Rattle.std.specs.Str.{bytes_eq}
use Rattle.package_tables.specs.Row.{by_bytes}
use Rattle.registry_tables.specs.Registry.{Registered}
use Rattle.registry_tables.specs.declared.package_list.Package.{Package}
use Rattle.standard_libraries.specs.Libraries.{ById}
use Rattle.offer_terms.specs.Demanded.{FixedSaid}
use Rattle.offer_catalog.specs.SaidCatalog.{SaidCatalog}

abbrev pub listed_ids : List ℕ → List Package → List (List ℕ)
listed_ids name packages = map (λ it. it.uuid) (filter (λ it. bytes_eq it.name name) packages)

abbrev pub library_ids : List ℕ → ById → List (List ℕ)
library_ids name libraries = map (λ entry. entry.0) (filter (λ entry. bytes_eq entry.1.name name) libraries)

abbrev pub fixed_ids : List ℕ → List FixedSaid → List (List ℕ)
fixed_ids name fixed = map (λ it. it.uuid) (filter (λ it. bytes_eq it.name name) fixed)

-- identifiers put to others, in the order of their bytes and each once
abbrev pub put_ids : List (List ℕ) → List (List ℕ) → List (List ℕ)
put_ids ids more = fold (insert_key by_bytes) ids more

abbrev pub put_registry : List ℕ → List (List ℕ) → Registered → List (List ℕ)
put_registry name ids registry = put_ids ids (listed_ids name registry.packages)

abbrev pub ids_named : SaidCatalog → List ℕ → List (List ℕ)
ids_named catalog name =
    put_ids (put_ids (fold (put_registry name) [] catalog.registries) (library_ids name catalog.libraries)) (fixed_ids name catalog.fixed)
