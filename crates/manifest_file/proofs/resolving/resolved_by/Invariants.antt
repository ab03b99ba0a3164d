use Rattle.std.proofs.Common.{◌≡◌, map, drop}
use Rattle.manifest_file.specs.Saying.{stanzas_by}
use Rattle.manifest_file.specs.Said.{said_stanza}
use Rattle.manifest_file.specs.Sorting.{bearers_by}
use Rattle.manifest_file.specs.Steps.{onto}
use Rattle.manifest_file.proofs.resolving.resolved_by.Given as goal

abbrev pub invariant-loop-group : goal.invariant-loop-group
invariant-loop-group l =
    stanzas_by (bearers_by l.index) l.groups ≡ onto (map said_stanza l.stanzas.items) (stanzas_by (bearers_by l.index) (drop l.group-index l.groups))
