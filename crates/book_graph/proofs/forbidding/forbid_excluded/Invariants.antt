-- What the offers of the packages so far exclude is forbidden.
use Rattle.book_graph.specs.Building.{Forbids, UpTo, AreExcludedOf}
use Rattle.book_graph.proofs.forbidding.forbid_excluded.Given as goal

abbrev pub invariant-loop-package : goal.invariant-loop-package
invariant-loop-package l = Forbids l.initial.builder l.builder (UpTo (AreExcludedOf l.book) l.package)
