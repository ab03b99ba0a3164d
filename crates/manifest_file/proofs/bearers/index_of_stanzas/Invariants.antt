use Rattle.std.proofs.Common.{◌≡◌, ℕ, List, ◌≤◌, length, map, drop}
use Rattle.manifest_file.specs.Said.{said_stanza}
use Rattle.manifest_file.specs.Sorting.{bearers_by}
use Rattle.manifest_file.specs.Written.{bearers_among}
use Rattle.manifest_file.proofs.bearers.index_of_stanzas.Given as goal

abbrev pub invariant-loop-left : goal.invariant-loop-left
invariant-loop-left l = (l.left ≤ length l.stanzas) × ((q : List ℕ) → bearers_by l.index q ≡ bearers_among (map said_stanza (drop l.left l.stanzas)) q)

abbrev pub decreases-loop-left : goal.decreases-loop-left
decreases-loop-left l = l.left
