-- The lines of extensions, and which of them are active. (own rule; Julia manual, Code Loading)
use Rattle.std.specs.Prelude.{ℕ, Bool, true, false, List, [], ◌∷◌, ◌++◌, codes, map}
use Rattle.std.specs.List.{flat_map}
use Rattle.manifest_file.specs.Saying.{SaidStanza}
use Rattle.extension_rules.specs.Rules.{is_active, is_id_among}

-- whether some stanza has an identifier
abbrev pub has_stanza : List SaidStanza → List ℕ → Bool
has_stanza stanzas = is_id_among (map (λ stanza. stanza.uuid) stanzas)

abbrev pub activity_text : Bool → List ℕ
activity_text true = codes "active"
activity_text false = codes "inactive"

-- `extension E PARENT active`, or `inactive`
abbrev pub extension_line : List ℕ → List ℕ → Bool → List ℕ
extension_line extension parent active = codes "extension " ++ (extension ++ (codes " " ++ (parent ++ (codes " " ++ (activity_text active ++ 10 ∷ [])))))

-- the line of an extension of a stanza, by which identifiers are there
abbrev pub line_of : (List ℕ → Bool) → SaidStanza → List ℕ × List (List ℕ) → List ℕ
line_of has stanza extension = extension_line extension.0 stanza.name (is_active has stanza extension.1)

-- the lines of these of a stanza's extensions
abbrev pub lines_named : (List ℕ → Bool) → SaidStanza → List (List ℕ × List (List ℕ)) → List ℕ
lines_named has stanza extensions = flat_map (line_of has stanza) extensions

abbrev pub lines_of : (List ℕ → Bool) → SaidStanza → List ℕ
lines_of has stanza = lines_named has stanza stanza.extensions

abbrev pub lines_by : (List ℕ → Bool) → List SaidStanza → List ℕ
lines_by has stanzas = flat_map (lines_of has) stanzas

-- a line for each extension of each stanza, active where all its triggers have stanzas; none where they aren't asked for
abbrev pub extension_lines : Bool → List SaidStanza → List ℕ
extension_lines true stanzas = lines_by (has_stanza stanzas) stanzas
extension_lines false stanzas = []
