use Rattle.std.proofs.Common.{◌≡◌, ◌<◌, ◌≤◌, true, length, map, drop}
use Rattle.toml.specs.View.{table_view}
use Rattle.manifest_file.specs.Said.{said_stanza}
use Rattle.manifest_file.specs.Sorting.{bearers_by}
use Rattle.manifest_file.specs.Written.{members_opt, group_put, grouped, is_apart, name_before}
use Rattle.manifest_file.specs.ReadsBack.{StanzasBack}
use Rattle.manifest_file.proofs.grouping.stanzas_value.Given as goal

abbrev pub invariant-loop-end : goal.invariant-loop-end
invariant-loop-end l =
    (l.end ≤ length l.stanzas)
    × (table_view l.table ≡ members_opt (map (group_put (bearers_by l.index)) (grouped (map said_stanza (drop l.end l.stanzas)))))
    × (0 < l.end → is_apart (name_before l.end (map said_stanza l.stanzas)) (grouped (map said_stanza (drop l.end l.stanzas))) ≡ true)
    × StanzasBack (bearers_by l.index) (map said_stanza (drop l.end l.stanzas))

abbrev pub decreases-loop-end : goal.decreases-loop-end
decreases-loop-end l = l.end
