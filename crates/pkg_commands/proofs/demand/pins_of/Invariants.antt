-- the stanzas so far, and those to come
use Rattle.std.proofs.Common.{◌≡◌, ◌++◌, drop, map}
use Rattle.manifest_file.specs.Said.{said_stanza}
use Rattle.offer_terms.specs.Demanded.{version_entry}
use Rattle.pkg_commands.specs.Demand as spec
use Rattle.pkg_commands.proofs.demand.pins_of.Given as goal

abbrev pub invariant-loop-stanza : goal.invariant-loop-stanza
invariant-loop-stanza l =
    spec.pins_of l.selection.items (map said_stanza l.stanzas) ≡ map version_entry l.pins.items ++ spec.pins_of l.selection.items (map said_stanza (drop l.stanza-index l.stanzas))
