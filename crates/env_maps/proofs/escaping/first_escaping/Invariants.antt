-- The stanzas so far have paths that are there.
use Rattle.std.proofs.Common.{◌≡◌, drop, map}
use Rattle.manifest_file.specs.Said.{said_stanza}
use Rattle.env_maps.specs.Maps.{first_escaping}
use Rattle.env_maps.proofs.escaping.first_escaping.Given as goal

abbrev pub invariant-loop-stanza : goal.invariant-loop-stanza
invariant-loop-stanza l = first_escaping l.folder (map said_stanza l.stanzas) ≡ first_escaping l.folder (map said_stanza (drop l.stanza-index l.stanzas))
