use Rattle.std.proofs.Common.{◌≡◌}
use Rattle.std.specs.List.{filter, range_with_len}
use Rattle.version_graph.specs.Domain.{has}
use Rattle.graph_pruning.specs.Marked.{standing_in, does_stand}
use Rattle.graph_pruning.proofs.reducing.standing_states.Given as goal

abbrev pub invariant-loop-i : goal.invariant-loop-i
invariant-loop-i l = l.list.items ≡ filter (does_stand (has l.domains) (standing_in l.classes) l.p) (range_with_len 0 l.i)
