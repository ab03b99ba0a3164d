use Rattle.std.proofs.Common.{◌≡◌, take}
use Rattle.std.specs.List.{filter}
use Rattle.version_graph.specs.Graph.{does_need}
use Rattle.version_graph.proofs.needs.add_need.Given as goal

abbrev pub invariant-loop-q : goal.invariant-loop-q
invariant-loop-q l = record {
  rows : l.rows.rows ≡ l.initial.rows.rows;
  rest : l.rows.rest ≡ filter (does_need l.instance l.p l.i) (take l.q-index l.neighbours);
}
