use Rattle.std.proofs.Common.{◌≡◌, ◌∙◌, ◌<◌, sym, subst, arith, length, get_or, [], ℕ}
use Rattle.version_graph.specs.Graph.{packages, are_neighbours, IsListOf}
use Rattle.version_graph.specs.Stored.{rows_of}
use Rattle.version_graph.proofs.RowLemmas.{row-read}
use Rattle.version_graph.proofs.building.InstanceBuilder.sums.Goals as goal
use Rattle.version_graph.proofs.building.InstanceBuilder.sums.Goals.{After-as_slice}

known : (c : After-as_slice) → c.loop-p.p < packages c.args.self.now
known c = omega (arith, c.packages-p-end.ensures.count, c.loop-p-test.true)

here : (c : After-as_slice) → get_or (rows_of c.args.rows.now) c.loop-p.p [] ≡ c.as_slice.result.now
here c =
    row-read c.args.rows.now c.loop-p.p c.index-rows-p.result c.index-rows-p.is (omega (arith, known c, c.requires.each)) ∙ sym c.as_slice.ensures.value

pub sums_of-more-requires-clause-list : goal.sums_of-more-requires-clause-list
sums_of-more-requires-clause-list c = subst (IsListOf (are_neighbours c.args.self.now c.loop-p.p)) (here c) (c.requires.lists c.loop-p.p (known c))

pub sums_of-more-requires-clause-inside : goal.sums_of-more-requires-clause-inside
sums_of-more-requires-clause-inside c =
    subst (λ r. (k : ℕ) → k < length r → get_or r k 0 < packages c.args.self.now) (here c) (λ k h. c.requires.inside c.loop-p.p k (known c) h)
