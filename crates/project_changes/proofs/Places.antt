-- The stanza at a place.
use Rattle.std.proofs.Common.{◌≡◌, ℕ, ◌<◌, List, length, get_or, set, map, Some, option_map, ap, sym, ◌∙◌}
use Rattle.std.proofs.lemmas.List.{map-set}
use Rattle.std.proofs.lemmas.Option.{slice_get-map, slice_get-get_or}
use Rattle.std.specs.List.{slice_get}
use Rattle.manifest_file.specs.Said.{said_stanza}
use Rattle.manifest_file.specs.Saying.{SaidStanza}
use Rattle.manifest_file.specs.declared.stanza.Stanza.{Stanza}
use Rattle.project_changes.specs.Stanzas.{put_at}

pub stanza-at : (items : List Stanza) (place : ℕ) (d : Stanza) → place < length items → slice_get (map said_stanza items) place ≡ Some (said_stanza (get_or items place d))
stanza-at items place d inside = slice_get-map said_stanza items place ∙ ap (option_map said_stanza) (slice_get-get_or items place d inside)

pub stanza-put : (change : SaidStanza → SaidStanza) (items : List Stanza) (place : ℕ) (d made : Stanza) → place < length items → said_stanza made ≡ change (said_stanza (get_or items place d))
    → map said_stanza (set items place made) ≡ put_at change place (map said_stanza items) (slice_get (map said_stanza items) place)
stanza-put change items place d made inside same =
    map-set said_stanza items place made
    ∙ ap (set (map said_stanza items) place) same
    ∙ sym (ap (put_at change place (map said_stanza items)) (stanza-at items place d inside))
