use Rattle.std.proofs.Common.{sym, subst, get_or}
use Rattle.version_graph.specs.Graph.{Graph, are_neighbours, IsListOf, IsGraph}
use Rattle.version_graph.specs.Stored.{IsStored}
use Rattle.version_graph.proofs.GraphLemmas.{graph-from, forbidden_from_neighbours, neighbours_from_forbidden}
use Rattle.version_graph.proofs.LinkLemmas.{link_list}
use Rattle.version_graph.proofs.graph.Instance.neighbours.Goals as goal
use Rattle.version_graph.proofs.graph.Instance.neighbours.Goals.{After-numbers}

sound : (c : After-numbers) → IsGraph c.args.self.now
sound c = subst IsGraph c.self.view_is (graph-from _ _ c.self.invariant.kept)

listed : (c : After-numbers) → IsListOf (are_neighbours c.args.self.now c.args.p) c.numbers.result.now
listed c = subst (IsListOf (are_neighbours c.args.self.now c.args.p)) (sym c.numbers.ensures) (link_list c.args.self.now c.self.inside.barred.items c.self.inside.links.items c.self.inside.total (subst (λ (h : Graph). IsStored h c.self.inside.barred.items c.self.inside.links.items c.self.inside.total) c.self.view_is c.self.invariant) c.args.p c.requires c.index.result.now c.index.ensures)

pub returns-clause-list : goal.returns-clause-list
returns-clause-list c = listed c

pub returns-clause-known : goal.returns-clause-known
returns-clause-known c k h =
    let f = forbidden_from_neighbours c.args.self.now c.args.p (get_or c.numbers.result.now k 0) ((listed c).sound k h) in
    ((sound c).between _ _ _ _ f.2).second

pub returns-clause-apart : goal.returns-clause-apart
returns-clause-apart c k h e =
    let f = forbidden_from_neighbours c.args.self.now c.args.p (get_or c.numbers.result.now k 0) ((listed c).sound k h) in
    ((sound c).between _ _ _ _ f.2).apart (sym e)

pub returns-clause-whole : goal.returns-clause-whole
returns-clause-whole c i q j e =
    (listed c).whole q (neighbours_from_forbidden c.args.self.now c.args.p i q j ((sound c).between _ _ _ _ e) e)
