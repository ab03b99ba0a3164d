-- Where the stanza of an identifier stands.
use Rattle.std.specs.Prelude.{ℕ, List, Option, Some, None, option_map}
use Rattle.std.specs.BTreeMap.{BTreeMap, get}
use Rattle.std.specs.Cmp.Lexicographic.{slice_cmp}
use Rattle.std.specs.List.{slice_get}
use Rattle.std.specs.Ordering.{nat_cmp}
use Rattle.manifest_file.specs.Said.{said_stanza}
use Rattle.manifest_file.specs.Saying.{SaidStanza}
use Rattle.manifest_file.specs.declared.stanza.Stanza.{Stanza}

-- the place that an identifier has
abbrev pub place_in : BTreeMap (List ℕ) ℕ → List ℕ → Option ℕ
place_in places = get (slice_cmp nat_cmp) places

-- the stanza at a place
abbrev pub stanza_at : List Stanza → Option ℕ → Option SaidStanza
stanza_at stanzas None = None
stanza_at stanzas (Some place) = option_map said_stanza (slice_get stanzas place)
