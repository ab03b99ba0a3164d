use Rattle.std.proofs.Common.{◌≡◌, ◌<◌, ◌≤◌, ℕ, true, length, get_or}
use Rattle.std.specs.Vec.{vec_capacity}
use Rattle.version_graph.specs.Graph.{packages}
use Rattle.raise_pass.specs.Reached.{is_marked, AreListed, AreReached, AreSpread}
use Rattle.raise_pass.proofs.reaching.find_reached.Given as goal

abbrev pub invariant-loop-root : goal.invariant-loop-root
invariant-loop-root l = record {
  listed : AreListed l.instance l.reached.items l.order.items;
  reached : AreReached l.instance l.chosen l.reached.items;
  room : packages l.instance ≤ vec_capacity l.order;
  met : (k : ℕ) → k < l.root-index → is_marked l.reached.items (get_or l.roots k 0) ≡ true;
}

abbrev pub invariant-loop-next : goal.invariant-loop-next
invariant-loop-next l = record {
  listed : AreListed l.instance l.reached.items l.order.items;
  reached : AreReached l.instance l.chosen l.reached.items;
  spread : AreSpread l.instance l.chosen l.reached.items l.order.items l.next;
  room : packages l.instance ≤ vec_capacity l.order;
  met : (k : ℕ) → k < length l.roots → is_marked l.reached.items (get_or l.roots k 0) ≡ true;
}
