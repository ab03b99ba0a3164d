-- The identifiers so far, and those of the rest.
use Rattle.std.proofs.Common.{◌≡◌, ◌++◌, drop, map}
use Rattle.manifest_file.specs.Said.{said_stanza}
use Rattle.home_commands.proofs.extension_lines.ids_of.Given as goal

abbrev pub invariant-loop-stanza : goal.invariant-loop-stanza
invariant-loop-stanza l =
    map (λ stanza. stanza.uuid) (map said_stanza l.stanzas) ≡ l.ids.items ++ map (λ stanza. stanza.uuid) (map said_stanza (drop l.stanza-index l.stanzas))
