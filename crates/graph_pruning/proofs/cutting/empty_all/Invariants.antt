use Rattle.std.proofs.Common.{◌≡◌, ℕ, nat_lt, not, ◌&&◌, length, take}
use Rattle.version_graph.specs.Domain.{has}
use Rattle.version_graph.specs.Noted.{Holds}
use Rattle.graph_pruning.proofs.cutting.empty_all.Given as goal

abbrev pub invariant-loop-p : goal.invariant-loop-p
invariant-loop-p l = record {
  held : Holds l.instance l.domains l.trail;
  cut : (q k : ℕ) → has l.domains q k ≡ (has l.initial.domains q k && not (nat_lt q l.p));
  earlier : take (length l.initial.trail.notes) l.trail.notes ≡ l.initial.trail.notes;
}
