-- Which stanza of a manifest a name means. (Own rule.)
--     stanza_at manifest name     the place of the one stanza that has the name, or why there isn't one
use Rattle.std.specs.Prelude.{ℕ, suc, if◌then◌else◌, List, [], ◌∷◌, Option, Some, None, option_map, Result, Ok, Err}
use Rattle.std.specs.Str.{bytes_eq}
use Rattle.manifest_file.specs.Saying as manifest
use Rattle.manifest_file.specs.Saying.{SaidStanza}
use Rattle.offer_terms.specs.Offered.{Text, Id}
use Rattle.package_names.specs.Names.{stanza_ids}

-- why a name means no stanza: none has it, or several, of whose identifiers these are the least
pub data StanzaRefusal : Type 0 where
  not_in_manifest : Text → StanzaRefusal
  ambiguous : Id → Id → StanzaRefusal

-- the place of the first stanza of a name
abbrev pub place_named : Text → List SaidStanza → Option ℕ
place_named name [] = None
place_named name (stanza ∷ stanzas) = if bytes_eq stanza.name name then Some 0 else option_map suc (place_named name stanzas)

-- the place, unless the stanzas of the name have these several identifiers
abbrev pub unless_several : ℕ → List Id → Result ℕ StanzaRefusal
unless_several place [] = Ok place
unless_several place (id ∷ []) = Ok place
unless_several place (least ∷ next ∷ more) = Err (ambiguous least next)

abbrev pub at_place : Text → List Id → Option ℕ → Result ℕ StanzaRefusal
at_place name ids None = Err (not_in_manifest name)
at_place name ids (Some place) = unless_several place ids

-- no two stanzas of a manifest have one identifier
abbrev pub stanza_at : manifest.Said → Text → Result ℕ StanzaRefusal
stanza_at found name = at_place name (stanza_ids name found.stanzas) (place_named name found.stanzas)
