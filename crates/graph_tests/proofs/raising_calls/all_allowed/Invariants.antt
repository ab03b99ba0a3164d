use Rattle.std.proofs.Common.{◌≡◌, ◌≢◌, ◌<◌, ℕ, false, slice_index}
use Rattle.version_graph.specs.Graph.{packages, is_forbidden}
use Rattle.graph_tests.proofs.raising_calls.all_allowed.Given as goal

abbrev pub invariant-loop-p : goal.invariant-loop-p
invariant-loop-p l =
    (a b : ℕ) → a < l.p → b < packages l.instance → a ≢ b → is_forbidden l.instance a (slice_index l.chosen a) b (slice_index l.chosen b) ≡ false

abbrev pub invariant-loop-q : goal.invariant-loop-q
invariant-loop-q l =
    (b : ℕ) → b < l.q → l.p ≢ b → is_forbidden l.instance l.p (slice_index l.chosen l.p) b (slice_index l.chosen b) ≡ false
