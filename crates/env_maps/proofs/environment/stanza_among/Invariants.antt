-- The stanzas so far are of other identities.
use Rattle.std.proofs.Common.{◌≡◌, drop, map}
use Rattle.manifest_file.specs.Said.{said_stanza}
use Rattle.env_maps.specs.Maps.{stanza_of}
use Rattle.env_maps.proofs.environment.stanza_among.Given as goal

abbrev pub invariant-loop-stanza : goal.invariant-loop-stanza
invariant-loop-stanza l = stanza_of l.id (map said_stanza l.stanzas) ≡ stanza_of l.id (map said_stanza (drop l.stanza-index l.stanzas))
