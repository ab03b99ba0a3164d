-- The other versions of the pinned packages so far are forbidden.
use Rattle.std.proofs.Common.{map}
use Rattle.jl_versions.specs.declared.version.Version.{Version}
use Rattle.offer_terms.specs.Offered.{Id}
use Rattle.offer_terms.specs.Demanded.{version_entry}
use Rattle.book_graph.specs.Building.{Bars, UpTo, OfPlace, IsOffered, is_other}
use Rattle.book_graph.proofs.barring.bar_pins.Given as goal

abbrev pub invariant-loop-pin : goal.invariant-loop-pin
invariant-loop-pin l = Bars l.initial.builder l.builder (UpTo (OfPlace (λ (p : Id × Version). IsOffered l.book p.0 (is_other p.1)) (map version_entry l.pins)) l.pin-index)
