use Rattle.std.proofs.Common.{◌≡◌, ◌<◌, ℕ, true, slice_index}
use Rattle.version_graph.specs.Graph.{is_offered}
use Rattle.graph_tests.proofs.raising_calls.all_offered.Given as goal

abbrev pub invariant-loop-p : goal.invariant-loop-p
invariant-loop-p l = (a : ℕ) → a < l.p → is_offered l.instance a (slice_index l.chosen a) ≡ true
