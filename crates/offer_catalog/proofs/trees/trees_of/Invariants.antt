-- The stanzas so far are put, and the rest is to be put.
use Rattle.std.proofs.Common.{◌≡◌, drop, fold, map}
use Rattle.manifest_file.specs.Said.{said_stanza}
use Rattle.offer_catalog.specs.Trees as spec
use Rattle.offer_catalog.proofs.trees.trees_of.Given as goal

abbrev pub invariant-loop-stanza : goal.invariant-loop-stanza
invariant-loop-stanza l = spec.trees_of (map said_stanza l.stanzas) ≡ fold spec.put_stanza l.trees.entries (map said_stanza (drop l.stanza-index l.stanzas))
