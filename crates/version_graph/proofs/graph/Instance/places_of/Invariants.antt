use Rattle.version_graph.specs.Copied.{ArePlaces}
use Rattle.version_graph.proofs.graph.Instance.places_of.Given as goal

abbrev pub invariant-loop-p : goal.invariant-loop-p
invariant-loop-p l = ArePlaces l.self l.part l.p l.places.items
