-- The active extensions so far, and those of the rest.
use Rattle.std.proofs.Common.{◌≡◌, ◌++◌, drop, map, filter}
use Rattle.manifest_file.specs.Said.{said_stanza}
use Rattle.manifest_file.specs.Steps.{has_id}
use Rattle.extension_rules.specs.Rules.{active_named}
use Rattle.extension_rules.proofs.activity.push_active.Given as goal

abbrev pub invariant-loop-name : goal.invariant-loop-name
invariant-loop-name l =
    l.initial.list.items ++ active_named (has_id l.loaded) (said_stanza l.stanza) l.stanza.extensions.items
    ≡ l.list.items ++ active_named (has_id l.loaded) (said_stanza l.stanza) (drop l.name-index l.stanza.extensions.items)
