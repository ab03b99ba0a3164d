-- The stanzas from the place on that is left.
use Rattle.std.proofs.Common.{◌≡◌, ℕ, List, ◌≤◌, length, map, drop}
use Rattle.manifest_file.specs.Said.{said_stanza}
use Rattle.home_commands.specs.StanzaPlaces.{place_in, stanza_at}
use Rattle.home_commands.specs.StatusDue.{stanza_with}
use Rattle.home_commands.proofs.stanza_places.places_of.Given as goal

abbrev pub invariant-loop-left : goal.invariant-loop-left
invariant-loop-left l = (l.left ≤ length l.stanzas) × ((q : List ℕ) → stanza_at l.stanzas (place_in l.places q) ≡ stanza_with q (map said_stanza (drop l.left l.stanzas)))

abbrev pub decreases-loop-left : goal.decreases-loop-left
decreases-loop-left l = l.left
