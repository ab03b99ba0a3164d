use Rattle.std.proofs.Common.{◌≡◌, ◌++◌, map, drop}
use Rattle.toml.specs.View.{view}
use Rattle.manifest_file.specs.Said.{said_stanza}
use Rattle.manifest_file.specs.Sorting.{bearers_by}
use Rattle.manifest_file.specs.Written.{stanza_data}
use Rattle.manifest_file.specs.ReadsBack.{StanzasBack}
use Rattle.manifest_file.proofs.grouping.group_value.Given as goal

abbrev pub invariant-loop-stanza : goal.invariant-loop-stanza
invariant-loop-stanza l =
    (map (stanza_data (bearers_by l.index)) (map said_stanza l.stanzas) ≡ map view l.list.items ++ map (stanza_data (bearers_by l.index)) (map said_stanza (drop l.stanza-index l.stanzas)))
    × (StanzasBack (bearers_by l.index) (map said_stanza (drop l.stanza-index l.stanzas)) → StanzasBack (bearers_by l.index) (map said_stanza l.stanzas))
