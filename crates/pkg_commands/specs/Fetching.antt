-- Which dependency of a project is to be fetched: one whose source is an address, where no stanza of its identifier comes from
-- a repository at this address, with the same revision and folder where they are given. (Own rule.)
--     unfetched sources deps stanzas     the first such dependency, in the order of the names
use Rattle.std.specs.Prelude.{Bool, true, false, not, ◌&&◌, List, find, Option, Some, None}
use Rattle.std.specs.List.{list_any}
use Rattle.std.specs.Str.{bytes_eq}
use Rattle.package_tables.specs.Row.{value_of}
use Rattle.project_file.specs.declared.source.Source.{Source}
use Rattle.project_file.specs.declared.source.Source.TheVariants.{Path, Url}
use Rattle.manifest_file.specs.Saying.{SaidStanza}
use Rattle.manifest_file.specs.declared.origin.Origin.{Origin}
use Rattle.manifest_file.specs.declared.origin.Origin.TheVariants as origins
use Rattle.offer_terms.specs.Offered.{Text, Id}

-- a text that is given is the one that was found
abbrev pub is_met : Option Text → Option Text → Bool
is_met None found = true
is_met (Some given) None = false
is_met (Some given) (Some found) = bytes_eq found given

-- an origin is a repository at the address, with the revision and the folder where they are given
abbrev pub is_from : Text → Option Text → Option Text → Origin → Bool
is_from url rev subdir (origins.Tree tree) = false
is_from url rev subdir (origins.Path text) = false
is_from url rev subdir (origins.Repo found_url found_rev found_subdir tree) = bytes_eq found_url url && (is_met rev found_rev && is_met subdir found_subdir)
is_from url rev subdir origins.Std = false

-- a stanza of the identifier has fetched it
abbrev pub has_fetched : List SaidStanza → Id → Text → Option Text → Option Text → Bool
has_fetched stanzas uuid url rev subdir = list_any (λ stanza. bytes_eq stanza.uuid uuid && is_from url rev subdir stanza.origin) stanzas

-- a package whose source is no address needs no fetching
abbrev pub is_fetched : List SaidStanza → Id → Option Source → Bool
is_fetched stanzas uuid None = true
is_fetched stanzas uuid (Some (Path text)) = true
is_fetched stanzas uuid (Some (Url url rev subdir)) = has_fetched stanzas uuid url rev subdir

abbrev pub unfetched : List (Text × Source) → List (Text × Id) → List SaidStanza → Option (Text × Id)
unfetched sources deps stanzas = find (λ dep. not (is_fetched stanzas dep.1 (value_of dep.0 sources))) deps
