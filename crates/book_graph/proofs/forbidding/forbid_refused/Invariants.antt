-- The versions that the entries so far don't allow are forbidden.
use Rattle.std.proofs.Common.{map}
use Rattle.offer_terms.specs.Offered.{Id, Allows, allowing}
use Rattle.book_graph.specs.Building.{Forbids, UpTo, OfPlace, IsFrom, IsOffered, is_refused}
use Rattle.book_graph.proofs.forbidding.forbid_refused.Given as goal

abbrev pub invariant-loop-entry : goal.invariant-loop-entry
invariant-loop-entry l = Forbids l.initial.builder l.builder (UpTo (OfPlace (λ (e : Id × Allows). IsFrom l.package l.state (IsOffered l.book e.0 (is_refused e.1))) (map allowing l.entries)) l.entry-index)
