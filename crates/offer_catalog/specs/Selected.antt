-- The selection that a manifest says: the version of each stanza, but not Julia's nor the project's own. A stanza without a
-- version has that of the fixed package of its identifier, else that of the standard library, else 0.0.0. (Own rules.)
--     selected_by catalog own manifest     the versions by the identifiers of their packages
use Rattle.std.specs.Prelude.{ℕ, Bool, true, not, ◌&&◌, List, [], ◌∷◌, map, filter, find, fold, Option, Some, None, option_map, unwrap_or}
use Rattle.std.specs.Str.{bytes_eq}
use Rattle.std.specs.BTreeMap.{insert_entry}
use Rattle.std.specs.Option.{option_or}
use Rattle.jl_versions.specs.declared.version.Version.{Version}
use Rattle.package_tables.specs.Row.{by_bytes, value_of, is_package}
use Rattle.manifest_file.specs.Saying as manifest
use Rattle.manifest_file.specs.Saying.{SaidStanza}
use Rattle.fixed_packages.specs.Given.{zero_version}
use Rattle.offer_terms.specs.Demanded.{FixedSaid}
use Rattle.offer_terms.specs.Offered.{Selected}
use Rattle.offer_catalog.specs.SaidCatalog.{SaidCatalog}

-- a package other than the project's own
abbrev pub is_other : Option (List ℕ) → List ℕ → Bool
is_other None uuid = true
is_other (Some own) uuid = not (bytes_eq uuid own)

-- a package whose stanza counts: neither Julia nor the project's own
abbrev pub counts : Option (List ℕ) → List ℕ → Bool
counts own uuid = is_package uuid && is_other own uuid

-- the version of a fixed package
abbrev pub fixed_version : List FixedSaid → List ℕ → Option Version
fixed_version fixed uuid = option_map (λ it. it.version) (find (λ it. bytes_eq uuid it.uuid) fixed)

-- the version of a standard library
abbrev pub standard_version : SaidCatalog → List ℕ → Option Version
standard_version catalog uuid = option_map (λ it. it.version) (value_of uuid catalog.libraries)

-- the version that a package has where its stanza says none
abbrev pub given_version : SaidCatalog → List ℕ → Version
given_version catalog uuid = unwrap_or (option_or (fixed_version catalog.fixed uuid) (standard_version catalog uuid)) zero_version

abbrev pub version_of : SaidCatalog → SaidStanza → Version
version_of catalog stanza = unwrap_or stanza.version (given_version catalog stanza.uuid)

-- one stanza more; one of a package that is there already takes its place
abbrev pub put_stanza : SaidCatalog → Selected → SaidStanza → Selected
put_stanza catalog selected stanza = insert_entry by_bytes selected stanza.uuid (version_of catalog stanza)

abbrev pub selected_of : SaidCatalog → Option (List ℕ) → List SaidStanza → Selected
selected_of catalog own stanzas = fold (put_stanza catalog) [] (filter (λ stanza. counts own stanza.uuid) stanzas)

abbrev pub selected_by : SaidCatalog → Option (List ℕ) → manifest.Said → Selected
selected_by catalog own found = selected_of catalog own found.stanzas
