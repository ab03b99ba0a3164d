-- What the offers so far exclude is forbidden.
use Rattle.book_graph.specs.Building.{Forbids, UpTo}
use Rattle.book_graph.proofs.Pairs.{of_state}
use Rattle.book_graph.proofs.forbidding.forbid_of_package.Given as goal

abbrev pub invariant-loop-place : goal.invariant-loop-place
invariant-loop-place l = Forbids l.initial.builder l.builder (UpTo (of_state l.book l.package) l.place)
