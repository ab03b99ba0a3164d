use Rattle.std.proofs.Common.{◌≡◌, ◌≤◌, length, take}
use Rattle.version_graph.specs.Graph.{Graph}
use Rattle.version_graph.specs.Noted.{Holds}
use Rattle.graph_pruning.proofs.closing.undo_to.Given as goal

abbrev pub invariant-loop-domains : goal.invariant-loop-domains
invariant-loop-domains l = record {
  above : l.mark ≤ length l.trail.notes;
  fewer : length l.trail.notes ≤ length l.initial.trail.notes;
  notes : l.trail.notes ≡ take (length l.trail.notes) l.initial.trail.notes;
  settled : l.trail.settled ≡ l.initial.trail.settled;
  keeps : (g : Graph) → Holds g l.initial.domains l.initial.trail → Holds g l.domains l.trail;
}

abbrev pub decreases-loop-domains : goal.decreases-loop-domains
decreases-loop-domains l = length l.trail.notes
