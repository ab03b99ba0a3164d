-- What is chosen of the packages so far is put.
use Rattle.std.proofs.Common.{◌≡◌}
use Rattle.offer_terms.specs.Offered.{Id, version_in}
use Rattle.book_graph.proofs.Selected.{chosen_below}
use Rattle.book_graph.proofs.selecting.chosen_versions.Given as goal

abbrev pub invariant-loop-package : goal.invariant-loop-package
invariant-loop-package l = (u : Id) → version_in l.versions.entries u ≡ chosen_below l.book l.states l.package u
