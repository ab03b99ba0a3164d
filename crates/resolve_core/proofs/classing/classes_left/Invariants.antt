-- The classes of the packages so far are added.
use Rattle.std.proofs.Common.{◌≡◌, map}
use Rattle.version_graph.specs.Domain.{has}
use Rattle.graph_pruning.specs.Marked.{marked, standing_in}
use Rattle.resolve_core.specs.Classed.{class_said, classes_below}
use Rattle.resolve_core.proofs.classing.classes_left.Given as goal

abbrev pub invariant-loop-package : goal.invariant-loop-package
invariant-loop-package l = map class_said l.table.items ≡ classes_below l.instance (has l.domains) (standing_in l.pruned.classes) (marked l.pruned.kept) l.package
