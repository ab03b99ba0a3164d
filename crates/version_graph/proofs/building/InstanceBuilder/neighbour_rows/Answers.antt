use Rattle.std.proofs.Common.{◌≡◌, ◌∙◌, ◌*◌, ◌+◌, ap, sym, subst, length}
use Rattle.version_graph.specs.Graph.{Graph, SameGraph, bits, cells}
use Rattle.version_graph.specs.Keys.{AreBelow, AreInOrder}
use Rattle.version_graph.specs.Stored.{rows_of, graph_of, AreLinked}
use Rattle.version_graph.proofs.GraphLemmas.{of-pairs, below-from, rows-from_linked}
use Rattle.version_graph.proofs.BuildLemmas.{same-graph, same-sums, kept-alike}
use Rattle.version_graph.proofs.PartLemmas.{if-ok}
use Rattle.version_graph.proofs.building.InstanceBuilder.neighbour_rows.Goals as goal

pub neighbour_rows-requires-clause-below : goal.neighbour_rows-requires-clause-below
neighbour_rows-requires-clause-below c =
    let sizes = c.self.inside.sizes.items in
    let barred = c.self.inside.barred.items in
    let pairs = c.order_pairs.new.pairs.items in
    let kept = kept-alike sizes barred c.self.inside.pairs.items pairs c.order_pairs.ensures.same c.self.invariant.0 in
    let below = below-from (graph_of sizes barred pairs) barred pairs (of-pairs sizes barred pairs) kept in
    subst (λ n. AreBelow n c.as_slice.result.now) (sym (c.len.ensures ∙ c.self.inside.sizes.ok.0))
    (subst (AreBelow (length sizes)) (sym c.as_slice.ensures.value) below)

pub neighbour_rows-requires-clause-ordered : goal.neighbour_rows-requires-clause-ordered
neighbour_rows-requires-clause-ordered c = subst AreInOrder (sym c.as_slice.ensures.value) c.order_pairs.ensures.ordered

pub invariant_of-self : goal.invariant_of-self
invariant_of-self c = (
  kept-alike c.self.inside.sizes.items c.self.inside.barred.items c.self.inside.pairs.items c.order_pairs.new.pairs.items c.order_pairs.ensures.same c.self.invariant.0,
  c.self.invariant.1,
)

pub returns-clause-same : goal.returns-clause-same
returns-clause-same c =
    let more = graph_of c.self.inside.sizes.items c.self.inside.barred.items c.order_pairs.new.pairs.items in
    subst (λ (h : Graph). SameGraph h more) c.self.view_is
    (same-graph c.self.inside.sizes.items c.self.inside.barred.items c.self.inside.pairs.items c.order_pairs.new.pairs.items c.order_pairs.ensures.same)

pub returns-clause-bits : goal.returns-clause-bits
returns-clause-bits c =
    same-sums c.self.inside.sizes.items c.self.inside.barred.items c.self.inside.pairs.items c.order_pairs.new.pairs.items c.order_pairs.ensures.same (λ a b. a * b)
    ∙ ap bits c.self.view_is

pub returns-clause-cells : goal.returns-clause-cells
returns-clause-cells c =
    same-sums c.self.inside.sizes.items c.self.inside.barred.items c.self.inside.pairs.items c.order_pairs.new.pairs.items c.order_pairs.ensures.same (λ a b. a + b)
    ∙ ap cells c.self.view_is

pub returns-clause-rows : goal.returns-clause-rows
returns-clause-rows c =
    let sizes = c.self.inside.sizes.items in
    let barred = c.self.inside.barred.items in
    let pairs = c.order_pairs.new.pairs.items in
    let kept = kept-alike sizes barred c.self.inside.pairs.items pairs c.order_pairs.ensures.same c.self.invariant.0 in
    if-ok c.neighbour_rows.result _ _
    (λ rows linked.
    rows-from_linked (graph_of sizes barred pairs) barred pairs (of-pairs sizes barred pairs) kept (rows_of rows.items)
    (subst (λ n. AreLinked n pairs (rows_of rows.items)) (c.len.ensures ∙ c.self.inside.sizes.ok.0)
    (subst (λ ks. AreLinked c.len.result ks (rows_of rows.items)) c.as_slice.ensures.value linked)))
    c.neighbour_rows.ensures
