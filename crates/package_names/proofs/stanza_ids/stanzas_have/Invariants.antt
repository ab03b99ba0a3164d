-- No stanza so far has both.
use Rattle.std.proofs.Common.{◌≡◌, drop, map}
use Rattle.manifest_file.specs.Said.{said_stanza}
use Rattle.package_names.specs.Names as spec
use Rattle.package_names.proofs.stanza_ids.stanzas_have.Given as goal

abbrev pub invariant-loop-stanza : goal.invariant-loop-stanza
invariant-loop-stanza l =
    spec.stanzas_have (map said_stanza l.stanzas) l.name l.uuid ≡ spec.stanzas_have (map said_stanza (drop l.stanza-index l.stanzas)) l.name l.uuid
