-- The packages so far are said, and the rest is left.
use Rattle.std.proofs.Common.{◌≡◌, ◌++◌, map}
use Rattle.std.specs.BTreeMap.{btree_map_len}
use Rattle.manifest_file.specs.Said.{said_stanza}
use Rattle.manifest_file.specs.Steps.{has_id}
use Rattle.manifest_writing.specs.Views.{keyed, found_said}
use Rattle.manifest_writing.specs.Writing as spec
use Rattle.manifest_writing.proofs.manifest.stanzas_of.Given as goal

abbrev pub invariant-packages : goal.invariant-packages
invariant-packages l =
    spec.stanzas_of l.fn.book (has_id l.fn.pinned) (found_said l.fn.found.entries) (keyed l.fn.packages.entries)
    ≡ map said_stanza l.stanzas.items ++ spec.stanzas_of l.fn.book (has_id l.fn.pinned) (found_said l.fn.found.entries) (keyed l.left.entries)

abbrev pub decreases-packages : goal.decreases-packages
decreases-packages l = btree_map_len l.left
