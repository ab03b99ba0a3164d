-- The stanzas so far are put, and the rest is to be put.
use Rattle.std.proofs.Common.{◌≡◌, drop, filter, map}
use Rattle.std.specs.Str.{bytes_eq}
use Rattle.manifest_file.specs.Said.{said_stanza}
use Rattle.offer_catalog.specs.Named.{put_ids}
use Rattle.package_names.specs.Names as spec
use Rattle.package_names.proofs.stanza_ids.stanza_ids.Given as goal

abbrev pub invariant-loop-stanza : goal.invariant-loop-stanza
invariant-loop-stanza l =
    spec.stanza_ids l.name (map said_stanza l.stanzas) ≡ put_ids l.ids.keys (map (λ it. it.uuid) (filter (λ it. bytes_eq it.name l.name) (map said_stanza (drop l.stanza-index l.stanzas))))
