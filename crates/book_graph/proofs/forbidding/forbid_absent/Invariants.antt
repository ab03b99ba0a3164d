-- That the dependencies so far are absent is forbidden.
use Rattle.offer_terms.specs.Offered.{Text, Id}
use Rattle.book_graph.specs.Building.{Forbids, UpTo, OfPlace, IsFrom, IsAbsent}
use Rattle.book_graph.proofs.forbidding.forbid_absent.Given as goal

abbrev pub invariant-loop-dep : goal.invariant-loop-dep
invariant-loop-dep l = Forbids l.initial.builder l.builder (UpTo (OfPlace (λ (d : Text × Id). IsFrom l.package l.state (IsAbsent l.book d.1)) l.deps) l.dep-index)
