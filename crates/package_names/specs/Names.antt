-- Which package a name means that is to be added to a project (Pkg, `add`; the order of the places is an own rule). A name
-- that is taken means none. Without an identifier the first place decides that has the name: `deps`, `weakdeps` and `extras`
-- of the project, then the manifest's stanzas, then the catalog. One that is given must stand under the name in some place.
--     added catalog project manifest name given     the identifier, or why the name means no package
use Rattle.std.specs.Prelude.{Bool, ◌&&◌, ◌||◌, if◌then◌else◌, List, [], ◌∷◌, map, filter, Option, Some, None, Result, Ok, Err}
use Rattle.std.specs.List.{list_any}
use Rattle.std.specs.Option.{option_or, option_to_list}
use Rattle.std.specs.Str.{bytes_eq}
use Rattle.package_tables.specs.Row.{value_of}
use Rattle.project_file.specs.Said as project
use Rattle.manifest_file.specs.Saying as manifest
use Rattle.manifest_file.specs.Saying.{SaidStanza}
use Rattle.offer_terms.specs.Offered.{Text, Id}
use Rattle.offer_catalog.specs.Named.{ids_named, put_ids}
use Rattle.offer_catalog.specs.SaidCatalog.{SaidCatalog}
use Rattle.package_names.specs.Taken as free
use Rattle.package_names.specs.Taken.{is_this}

-- why a name means no package: it is taken, with what it has; no place has it; no place has the given identifier under it;
-- the place that decides has several identifiers under it, of which these are the least
pub data NameRefusal : Type 0 where
  taken : Option Id → NameRefusal
  unknown : Text → NameRefusal
  unknown_package : Id → NameRefusal
  ambiguous : Id → Id → NameRefusal

-- the identifier that the project's file has at a name
abbrev pub project_id : project.Said → Text → Option Id
project_id said name = option_or (value_of name said.deps) (option_or (value_of name said.weakdeps) (value_of name said.extras))

-- the identifiers of the stanzas of a name, in the order of their bytes and each once
abbrev pub stanza_ids : Text → List SaidStanza → List Id
stanza_ids name stanzas = put_ids [] (map (λ it. it.uuid) (filter (λ it. bytes_eq it.name name) stanzas))

-- an identifier, unless there are more behind it
abbrev pub unless_more : Id → List Id → Result Id NameRefusal
unless_more id [] = Ok id
unless_more least (next ∷ more) = Err (ambiguous least next)

-- the one identifier that a place has under a name; where it has none, the later places decide
abbrev pub the_one : List Id → Result Id NameRefusal → Result Id NameRefusal
the_one [] later = later
the_one (id ∷ more) later = unless_more id more

abbrev pub in_catalog : SaidCatalog → Text → Result Id NameRefusal
in_catalog catalog name = the_one (ids_named catalog name) (Err (unknown name))

abbrev pub in_manifest : SaidCatalog → manifest.Said → Text → Result Id NameRefusal
in_manifest catalog found name = the_one (stanza_ids name found.stanzas) (in_catalog catalog name)

-- what a name alone means
abbrev pub looked_up : SaidCatalog → project.Said → manifest.Said → Text → Result Id NameRefusal
looked_up catalog said found name = the_one (option_to_list (project_id said name)) (in_manifest catalog found name)

-- whether the project's file has the identifier at the name
abbrev pub project_has : project.Said → Text → Id → Bool
project_has said name id =
    is_this id (value_of name said.deps) || is_this id (value_of name said.weakdeps) || is_this id (value_of name said.extras)

-- whether a stanza has the name and the identifier
abbrev pub stanzas_have : List SaidStanza → Text → Id → Bool
stanzas_have stanzas name id = list_any (λ it. bytes_eq it.name name && bytes_eq id it.uuid) stanzas

-- whether some place has the identifier under the name
abbrev pub is_known : SaidCatalog → project.Said → manifest.Said → Text → Id → Bool
is_known catalog said found name id =
    project_has said name id || stanzas_have found.stanzas name id || list_any (bytes_eq id) (ids_named catalog name)

abbrev pub if_known : SaidCatalog → project.Said → manifest.Said → Text → Id → Result Id NameRefusal
if_known catalog said found name id = if is_known catalog said found name id then Ok id else Err (unknown_package id)

-- what a name means that isn't taken
abbrev pub meant : SaidCatalog → project.Said → manifest.Said → Text → Option Id → Result Id NameRefusal
meant catalog said found name None = looked_up catalog said found name
meant catalog said found name (Some id) = if_known catalog said found name id

abbrev pub unless_taken : Option (Option Id) → Result Id NameRefusal → Result Id NameRefusal
unless_taken None later = later
unless_taken (Some had) later = Err (taken had)

abbrev pub added : SaidCatalog → project.Said → manifest.Said → Text → Option Id → Result Id NameRefusal
added catalog said found name given = unless_taken (free.taken said name given) (meant catalog said found name given)
