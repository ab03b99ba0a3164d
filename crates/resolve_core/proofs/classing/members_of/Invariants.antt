-- The states so far are listed.
use Rattle.std.proofs.Common.{◌≡◌, ℕ, ◌<◌, length}
use Rattle.version_graph.specs.Domain.{has}
use Rattle.graph_pruning.specs.Marked.{standing_in}
use Rattle.resolve_core.specs.Classed.{items_at}
use Rattle.resolve_core.specs.Classed as spec
use Rattle.resolve_core.proofs.classing.members_of.Given as goal

abbrev pub invariant-loop-state : goal.invariant-loop-state
invariant-loop-state l = record {
  each : length l.members.items ≡ l.count;
  lists : (s : ℕ) → s < l.count → items_at l.members.items s ≡ spec.members_of (has l.domains) (standing_in l.classes) l.package l.state s;
}
