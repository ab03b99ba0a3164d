-- What the entries so far don't hold is forbidden.
use Rattle.std.proofs.Common.{List, map}
use Rattle.compat_spec.specs.declared.part.Part.{Part}
use Rattle.offer_terms.specs.Offered.{Id}
use Rattle.offer_terms.specs.Demanded.{spec_entry}
use Rattle.book_graph.specs.Building.{Bars, UpTo, OfPlace, IsOffered, is_outside}
use Rattle.book_graph.proofs.barring.bar_project.Given as goal

abbrev pub invariant-loop-entry : goal.invariant-loop-entry
invariant-loop-entry l = Bars l.initial.builder l.builder (UpTo (OfPlace (λ (e : Id × List Part). IsOffered l.book e.0 (is_outside e.1)) (map spec_entry l.entries)) l.entry-index)
