use Rattle.std.proofs.Common.{◌≡◌, ℕ, ◌≤◌, ◌&&◌, ◌||◌, not, eqb, ltb, length, take}
use Rattle.version_graph.specs.Graph.{Graph}
use Rattle.version_graph.specs.Domain.{has}
use Rattle.version_graph.specs.Noted.{Holds, SaysAlike}
use Rattle.version_graph.proofs.domain.Domains.narrow.Given as goal

abbrev pub invariant-loop-j : goal.invariant-loop-j
invariant-loop-j l = record {
  cut : (q k : ℕ) → has l.self q k ≡ (has l.initial.self q k && (not (eqb q l.p) || (eqb k l.i || not (ltb k l.j))));
  longer : length l.initial.trail.notes ≤ length l.trail.notes;
  settled : SaysAlike l.initial.trail l.trail (length l.initial.trail.notes);
  earlier : take (length l.initial.trail.notes) l.trail.notes ≡ l.initial.trail.notes;
  keeps : (g : Graph) → Holds g l.initial.self l.initial.trail → Holds g l.self l.trail;
}
