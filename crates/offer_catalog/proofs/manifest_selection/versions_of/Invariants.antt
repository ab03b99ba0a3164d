-- The stanzas so far are put, and the rest is to be put.
use Rattle.std.proofs.Common.{◌≡◌, drop, filter, fold, map}
use Rattle.manifest_file.specs.Said.{said_stanza}
use Rattle.offer_catalog.specs.Selected as spec
use Rattle.offer_catalog.proofs.manifest_selection.versions_of.Given as goal

abbrev pub invariant-loop-stanza : goal.invariant-loop-stanza
invariant-loop-stanza l =
    spec.selected_of l.catalog l.own (map said_stanza l.stanzas)
    ≡ fold (spec.put_stanza l.catalog) l.versions.entries (filter (λ stanza. spec.counts l.own stanza.uuid) (map said_stanza (drop l.stanza-index l.stanzas)))
