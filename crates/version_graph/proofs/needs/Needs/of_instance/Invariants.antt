use Rattle.version_graph.proofs.NeedLemmas.{NeedsUpTo}
use Rattle.version_graph.proofs.needs.Needs.of_instance.Given as goal

abbrev pub invariant-loop-p : goal.invariant-loop-p
invariant-loop-p l = NeedsUpTo l.instance l.firsts.items l.rows l.p
