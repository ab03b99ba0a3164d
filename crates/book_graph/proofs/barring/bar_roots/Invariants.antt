-- The roots so far can't be absent.
use Rattle.offer_terms.specs.Offered.{Text, Id}
use Rattle.book_graph.specs.Building.{Bars, UpTo, OfPlace, IsAbsent}
use Rattle.book_graph.proofs.barring.bar_roots.Given as goal

abbrev pub invariant-loop-root : goal.invariant-loop-root
invariant-loop-root l = Bars l.initial.builder l.builder (UpTo (OfPlace (λ (r : Text × Id). IsAbsent l.book r.1) l.roots) l.root-index)
