-- The classes of the states so far are added.
use Rattle.std.proofs.Common.{◌≡◌, ◌++◌, map}
use Rattle.version_graph.specs.Domain.{has}
use Rattle.graph_pruning.specs.Marked.{standing_in}
use Rattle.resolve_core.specs.Classed.{class_said}
use Rattle.resolve_core.proofs.Classes.{class_list}
use Rattle.resolve_core.proofs.classing.push_classes.Given as goal

abbrev pub invariant-loop-state : goal.invariant-loop-state
invariant-loop-state l = map class_said l.table.items ≡ map class_said l.initial.table.items ++ class_list (has l.domains) (standing_in l.classes) l.package l.count l.state
