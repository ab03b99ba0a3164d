use Rattle.std.proofs.Common.{◌≡◌, ◌∙◌, ◌<◌, ℕ, Bool, List, ap, sym, subst, length, get_or, arith, [], sum}
use Rattle.std.specs.declared.vec.Vec.{Vec}
use Rattle.std.proofs.lemmas.List.{length-map}
use Rattle.version_graph.specs.Graph.{Graph, SameGraph}
use Rattle.version_graph.specs.Keys.{Key, pair_at}
use Rattle.version_graph.specs.Stored.{rows_of, graph_of, pairs_in, told_by, IsKept, IsStored, AreNeighbourRows}
use Rattle.version_graph.specs.Links.{Linked, CanForbid, ForbidsAll, IsFree, link_at}
use Rattle.version_graph.proofs.GraphLemmas.{of-pairs}
use Rattle.version_graph.proofs.LinkLemmas.{can_forbid, stored_from, told-pairs}
use Rattle.version_graph.proofs.BuildLemmas.{same-graph, stored-alike}
use Rattle.version_graph.proofs.building.InstanceBuilder.linked.Goals as goal

pub free_links-requires-clause-each : goal.free_links-requires-clause-each
free_links-requires-clause-each c =
    let rows = rows_of c.args.rows.now in
    let g = graph_of c.self.inside.sizes.items c.self.inside.barred.items c.self.inside.pairs.items in
    let near : AreNeighbourRows g rows = subst (λ (h : Graph). AreNeighbourRows h rows) (sym c.self.view_is) c.requires in
    let long : length rows ≡ length c.args.rows.now = length-map c.args.rows.now (λ v. v.items) in
    omega (arith, long, near.each, ap length c.as_slice.ensures.value)

pub free_links-requires-clause-rising : goal.free_links-requires-clause-rising
free_links-requires-clause-rising c = λ p h.
    let rows = rows_of c.args.rows.now in
    let g = graph_of c.self.inside.sizes.items c.self.inside.barred.items c.self.inside.pairs.items in
    let near : AreNeighbourRows g rows = subst (λ (h : Graph). AreNeighbourRows h rows) (sym c.self.view_is) c.requires in
    let long : length rows ≡ length c.args.rows.now = length-map c.args.rows.now (λ v. v.items) in
    (near.lists p (omega (arith, h, long, near.each))).rising

pub free_links-requires-clause-known : goal.free_links-requires-clause-known
free_links-requires-clause-known c = λ p k h l.
    let rows = rows_of c.args.rows.now in
    let g = graph_of c.self.inside.sizes.items c.self.inside.barred.items c.self.inside.pairs.items in
    let near : AreNeighbourRows g rows = subst (λ (h : Graph). AreNeighbourRows h rows) (sym c.self.view_is) c.requires in
    let long : length rows ≡ length c.args.rows.now = length-map c.args.rows.now (λ v. v.items) in
    omega (arith, near.inside p k (omega (arith, h, long, near.each)) l, ap length c.as_slice.ensures.value)

pub forbid_pairs-requires : goal.forbid_pairs-requires
forbid_pairs-requires c =
    let rows = rows_of c.args.rows.now in
    let g = graph_of c.self.inside.sizes.items c.self.inside.barred.items c.self.inside.pairs.items in
    let near : AreNeighbourRows g rows = subst (λ (h : Graph). AreNeighbourRows h rows) (sym c.self.view_is) c.requires in
    let long : length rows ≡ length c.args.rows.now = length-map c.args.rows.now (λ v. v.items) in
    let links = c.in_ok-links.links.items in
    let each : length links ≡ length rows = c.in_ok-links.ensures.each ∙ sym long in
    let numbers : (p : ℕ) → p < length rows → (link_at links p).numbers ≡ get_or rows p [] = λ p h. c.in_ok-links.ensures.numbers p (omega (arith, h, long)) in
    let free : (p : ℕ) → p < length rows → IsFree (link_at links p) (get_or g.sizes p 0) g.sizes = λ p h.
    subst (λ (xs : List ℕ). IsFree (link_at links p) (get_or xs p 0) xs) c.as_slice.ensures.value (c.in_ok-links.ensures.free p (omega (arith, h, long))) in
    subst (λ (ks : List Key). (n : ℕ) → n < length ks → CanForbid links (pair_at ks n).0 (pair_at ks n).2 (pair_at ks n).1 (pair_at ks n).3) (sym c.as_slice-2.ensures.value)
    (can_forbid g c.self.inside.barred.items c.self.inside.pairs.items (of-pairs c.self.inside.sizes.items c.self.inside.barred.items c.self.inside.pairs.items) c.self.invariant.0 rows near links each numbers free)

-- the tables with the pairs forbidden hold what is asked of them
stored : {Y Z : Type 0} (sizes : List ℕ) (barred : List (Vec Bool Z)) (pairs : List Key) (total : ℕ) → IsKept (graph_of sizes barred pairs) barred → total ≡ sum sizes →
    (h : Graph) → graph_of sizes barred pairs ≡ h → (rows : List (Vec ℕ Y)) → AreNeighbourRows h (rows_of rows) → (links new : List Linked) → length links ≡ length rows →
    ((p : ℕ) → p < length rows → (link_at links p).numbers ≡ get_or (rows_of rows) p []) → ((p : ℕ) → p < length rows → IsFree (link_at links p) (get_or sizes p 0) sizes) →
    ForbidsAll links new pairs → IsStored (graph_of sizes barred pairs) barred new total
stored sizes barred pairs total kept counted h view rows near links new each numbers free all =
    let g = graph_of sizes barred pairs in
    let long : length (rows_of rows) ≡ length rows = length-map rows (λ v. v.items) in
    stored_from g barred pairs (of-pairs sizes barred pairs) kept (rows_of rows) (subst (λ (x : Graph). AreNeighbourRows x (rows_of rows)) (sym view) near) links (each ∙ sym long)
    (λ p l. numbers p (omega (arith, l, long))) (λ p l. free p (omega (arith, l, long))) new total all counted

pub invariant_of-result : goal.invariant_of-result
invariant_of-result c =
    let sizes = c.self.inside.sizes.items in
    let barred = c.self.inside.barred.items in
    let pairs = c.self.inside.pairs.items in
    let links = c.in_ok-links.links.items in
    let new = c.forbid_pairs.new.links.items in
    let s = stored sizes barred pairs c.self.inside.total c.self.invariant.0 c.self.invariant.1 _ c.self.view_is c.args.rows.now c.requires links new
    c.in_ok-links.ensures.each c.in_ok-links.ensures.numbers
    (λ p h. subst (λ (xs : List ℕ). IsFree (link_at links p) (get_or xs p 0) xs) c.as_slice.ensures.value (c.in_ok-links.ensures.free p h))
    (subst (ForbidsAll links new) c.as_slice-2.ensures.value c.forbid_pairs.ensures) in
    stored-alike sizes barred pairs (pairs_in sizes new) (told-pairs sizes barred pairs new c.self.inside.total s) new c.self.inside.total s

pub returns : goal.returns
returns c =
    let sizes = c.self.inside.sizes.items in
    let barred = c.self.inside.barred.items in
    let pairs = c.self.inside.pairs.items in
    let links = c.in_ok-links.links.items in
    let new = c.forbid_pairs.new.links.items in
    let s = stored sizes barred pairs c.self.inside.total c.self.invariant.0 c.self.invariant.1 _ c.self.view_is c.args.rows.now c.requires links new
    c.in_ok-links.ensures.each c.in_ok-links.ensures.numbers
    (λ p h. subst (λ (xs : List ℕ). IsFree (link_at links p) (get_or xs p 0) xs) c.as_slice.ensures.value (c.in_ok-links.ensures.free p h))
    (subst (ForbidsAll links new) c.as_slice-2.ensures.value c.forbid_pairs.ensures) in
    subst (λ (h : Graph). SameGraph h (told_by sizes barred new)) c.self.view_is
    (same-graph sizes barred pairs (pairs_in sizes new) (told-pairs sizes barred pairs new c.self.inside.total s))
