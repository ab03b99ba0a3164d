use Rattle.std.proofs.Common.{◌-◌}
use Rattle.version_graph.specs.Graph.{is_forbidden}
use Rattle.maxsum_messages.proofs.Partners.{AreBarred}
use Rattle.maxsum_messages.proofs.weighed.best_partner.Given as goal

abbrev pub invariant-loop-k : goal.invariant-loop-k
invariant-loop-k g l = AreBarred l.weighed (λ i. is_forbidden l.instance l.p i l.q l.j) (l.count - l.k)
