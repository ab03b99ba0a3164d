use Rattle.std.proofs.Common.{◌≡◌, ℕ, ◌==◌, nat_lt, not, ◌&&◌, ◌||◌, length, take}
use Rattle.version_graph.specs.Graph.{last}
use Rattle.version_graph.specs.Domain.{has}
use Rattle.version_graph.specs.Noted.{Holds}
use Rattle.graph_pruning.specs.Marked.{marked}
use Rattle.graph_pruning.proofs.cutting.cut_unkept.Given as goal

abbrev pub invariant-loop-p : goal.invariant-loop-p
invariant-loop-p l = record {
  held : Holds l.instance l.domains l.trail;
  cut : (q i : ℕ) → has l.domains q i ≡ (has l.initial.domains q i && (not (nat_lt q l.p) || (marked l.kept q || (i == last l.instance q))));
  earlier : take (length l.initial.trail.notes) l.trail.notes ≡ l.initial.trail.notes;
}
