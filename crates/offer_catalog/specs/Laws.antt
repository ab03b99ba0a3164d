-- What a catalog has under a name, what a manifest selects and which trees it has, in the subject's words.
use Rattle.std.specs.Prelude.{◌≡◌, ℕ, Bool, ◌&&◌, ◌||◌, List, Option, option_map}
use Rattle.std.specs.List.{list_any, filter_map}
use Rattle.std.specs.List.Sorted.{IsStrictlySortedBy}
use Rattle.std.specs.Map.{lookup, keys_of}
use Rattle.std.specs.Str.{bytes_eq}
use Rattle.package_tables.specs.Row.{by_bytes}
use Rattle.registry_tables.specs.Lasts.{last_of}
use Rattle.registry_tables.specs.Registry.{Registered}
use Rattle.manifest_file.specs.Saying as manifest
use Rattle.manifest_file.specs.Saying.{SaidStanza}
use Rattle.offer_terms.specs.Offered.{version_in}
use Rattle.package_offers.specs.TreeExts.{TreeExts}
use Rattle.offer_catalog.specs.Named.{ids_named}
use Rattle.offer_catalog.specs.SaidCatalog.{SaidCatalog}
use Rattle.offer_catalog.specs.Selected.{counts, version_of, selected_by}
use Rattle.offer_catalog.specs.Trees.{tree_of, trees_of}

-- whether a registry lists a package of a name whose identifier passes a test
abbrev pub lists : List ℕ → (List ℕ → Bool) → Registered → Bool
lists name test registry = list_any (λ it. bytes_eq it.name name && test it.uuid) registry.packages

-- whether a package that a registry lists, a standard library or a fixed package has a name, and an identifier that passes
-- a test
abbrev pub has_named : SaidCatalog → List ℕ → (List ℕ → Bool) → Bool
has_named catalog name test =
    list_any (lists name test) catalog.registries
    || list_any (λ entry. bytes_eq entry.1.name name && test entry.0) catalog.libraries
    || list_any (λ it. bytes_eq it.name name && test it.uuid) catalog.fixed

-- an identifier is among those of a name where one of these has the name and that identifier
abbrev pub IdsAreThoseNamed : Type 0
IdsAreThoseNamed = (catalog : SaidCatalog) (name id : List ℕ) → list_any (bytes_eq id) (ids_named catalog name) ≡ has_named catalog name (bytes_eq id)

-- they rise, and so each stands once
abbrev pub IdsRise : Type 0
IdsRise = (catalog : SaidCatalog) (name : List ℕ) → IsStrictlySortedBy by_bytes (ids_named catalog name)

-- the version of a package is what its last stanza says, where the stanzas of that package count
abbrev pub LastStanzaIsSelected : Type 0
LastStanzaIsSelected = (catalog : SaidCatalog) (own : Option (List ℕ)) (found : manifest.Said) (id : List ℕ)
    → version_in (selected_by catalog own found) id ≡ option_map (version_of catalog) (last_of (λ stanza. counts own stanza.uuid && bytes_eq id stanza.uuid) found.stanzas)

abbrev pub SelectedRise : Type 0
SelectedRise = (catalog : SaidCatalog) (own : Option (List ℕ)) (found : manifest.Said) → IsStrictlySortedBy by_bytes (keys_of (selected_by catalog own found))

abbrev pub with_tree : SaidStanza → List ℕ → List ℕ × TreeExts
with_tree stanza tree = (stanza.uuid, record { tree = tree; extensions = stanza.extensions })

-- a stanza's tree at the identifier of its package, where it has one
abbrev pub tree_at : SaidStanza → Option (List ℕ × TreeExts)
tree_at stanza = option_map (with_tree stanza) (tree_of stanza.origin)

-- the tree of a package is the last one that a stanza of it has
abbrev pub TreesAreOfLastStanzas : Type 0
TreesAreOfLastStanzas = (stanzas : List SaidStanza) (id : List ℕ) → lookup (bytes_eq id) (trees_of stanzas) ≡ option_map (λ found. found.1) (last_of (λ found. bytes_eq id found.0) (filter_map tree_at stanzas))
