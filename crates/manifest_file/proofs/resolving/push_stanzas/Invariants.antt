use Rattle.std.proofs.Common.{◌≡◌, map, drop}
use Rattle.manifest_file.specs.Saying.{all_read, stanza_of}
use Rattle.manifest_file.specs.Said.{said_stanza}
use Rattle.manifest_file.specs.Sorting.{bearers_by}
use Rattle.manifest_file.specs.Steps.{onto}
use Rattle.manifest_file.proofs.resolving.push_stanzas.Given as goal

abbrev pub invariant-loop-entry : goal.invariant-loop-entry
invariant-loop-entry l =
    onto (map said_stanza l.initial.stanzas.items) (all_read (stanza_of (bearers_by l.index)) (map (λ entry. (l.name, entry)) l.list))
    ≡ onto (map said_stanza l.stanzas.items) (all_read (stanza_of (bearers_by l.index)) (map (λ entry. (l.name, entry)) (drop l.entry-index l.list)))
