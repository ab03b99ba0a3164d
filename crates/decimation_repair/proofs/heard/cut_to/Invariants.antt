use Rattle.std.proofs.Common.{◌≡◌, ℕ}
use Rattle.version_graph.specs.Family.{under}
use Rattle.version_graph.specs.Domain.{has}
use Rattle.version_graph.specs.Noted.{Holds}
use Rattle.decimation_repair.specs.Path.{choices_before}
use Rattle.decimation_repair.proofs.heard.cut_to.Given as goal

abbrev pub invariant-loop-chosen : goal.invariant-loop-chosen
invariant-loop-chosen l = record {
  held : Holds l.instance l.domains l.trail;
  cut : (p i : ℕ) → has l.domains p i ≡ under l.instance (choices_before l.path l.chosen-index) p i;
}
