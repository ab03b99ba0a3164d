-- The extensions of the stanzas so far, and of the rest.
use Rattle.std.proofs.Common.{◌≡◌, ◌++◌, drop, map}
use Rattle.manifest_file.specs.Said.{said_stanza}
use Rattle.manifest_file.specs.Steps.{has_id}
use Rattle.extension_rules.specs.Rules.{active}
use Rattle.extension_rules.proofs.activity.active_among.Given as goal

abbrev pub invariant-loop-stanza : goal.invariant-loop-stanza
invariant-loop-stanza l =
    active (has_id l.loaded) (map said_stanza l.stanzas) ≡ l.list.items ++ active (has_id l.loaded) (map said_stanza (drop l.stanza-index l.stanzas))
