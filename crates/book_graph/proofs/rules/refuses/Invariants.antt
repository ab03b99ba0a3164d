-- None of the entries so far refuses Julia's version.
use Rattle.std.proofs.Common.{◌≡◌, false, map, take}
use Rattle.std.specs.List.{list_any}
use Rattle.jl_versions.specs.Triple.{triple_of}
use Rattle.offer_terms.specs.Offered.{allowing}
use Rattle.book_graph.specs.Building.{refuses_entry}
use Rattle.book_graph.proofs.rules.refuses.Given as goal

abbrev pub invariant-loop-entry : goal.invariant-loop-entry
invariant-loop-entry l = list_any (refuses_entry (triple_of l.julia)) (take l.entry-index (map allowing l.entries)) ≡ false
