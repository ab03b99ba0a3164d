use Rattle.std.proofs.Common.{◌≡◌}
use Rattle.std.specs.List.{filter, range_with_len}
use Rattle.version_graph.specs.Graph.{is_root}
use Rattle.version_graph.proofs.graph.Instance.roots.Given as goal

abbrev pub invariant-loop-p : goal.invariant-loop-p
invariant-loop-p l = l.roots.items ≡ filter (is_root l.self) (range_with_len 0 l.p)
