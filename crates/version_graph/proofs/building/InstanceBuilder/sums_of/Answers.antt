use Rattle.std.proofs.Common.{arith}
use Rattle.version_graph.proofs.SumLemmas.{sums_start, sums_more, sums_end}
use Rattle.version_graph.proofs.building.InstanceBuilder.sums_of.Goals as goal

pub loop-q-init : goal.loop-q-init
loop-q-init c = sums_start c.args.self.now c.args.p c.args.row.now c.requires.list

pub overflow_add-bits : goal.overflow_add-bits
overflow_add-bits c =
    let s = sums_more c.args.self.now c.args.p c.args.row.now c.loop-q.q-index c.loop-q.bits c.loop-q.cells c.pair_sums-more.result.bits c.pair_sums-more.result.cells
    c.requires.list c.loop-q.invariant c.loop-q-test.true c.pair_sums-more.ensures.bits c.pair_sums-more.ensures.cells c.pair_sums-more.ensures.few_bits c.pair_sums-more.ensures.few_cells in
    omega (arith, s.few_bits, s.low, c.ranges.p.fits)

pub overflow_add-cells : goal.overflow_add-cells
overflow_add-cells c =
    let s = sums_more c.args.self.now c.args.p c.args.row.now c.loop-q.q-index c.loop-q.bits c.loop-q.cells c.pair_sums-more.result.bits c.pair_sums-more.result.cells
    c.requires.list c.loop-q.invariant c.loop-q-test.true c.pair_sums-more.ensures.bits c.pair_sums-more.ensures.cells c.pair_sums-more.ensures.few_bits c.pair_sums-more.ensures.few_cells in
    omega (arith, s.few_cells, s.low, c.ranges.p.fits)

pub loop-q-preserved : goal.loop-q-preserved
loop-q-preserved c =
    sums_more c.args.self.now c.args.p c.args.row.now c.loop-q.q-index c.loop-q.bits c.loop-q.cells c.pair_sums-more.result.bits c.pair_sums-more.result.cells
    c.requires.list c.loop-q.invariant c.loop-q-test.true c.pair_sums-more.ensures.bits c.pair_sums-more.ensures.cells c.pair_sums-more.ensures.few_bits c.pair_sums-more.ensures.few_cells

pub returns-clause-bits : goal.returns-clause-bits
returns-clause-bits c =
    (sums_end c.args.self.now c.args.p c.args.row.now c.loop-q.q-index c.loop-q.bits c.loop-q.cells c.requires.list c.loop-q.invariant c.loop-q-test.false).0

pub returns-clause-cells : goal.returns-clause-cells
returns-clause-cells c =
    (sums_end c.args.self.now c.args.p c.args.row.now c.loop-q.q-index c.loop-q.bits c.loop-q.cells c.requires.list c.loop-q.invariant c.loop-q-test.false).1

pub returns-clause-few_bits : goal.returns-clause-few_bits
returns-clause-few_bits c = let s = c.loop-q.invariant in omega (arith, s.few_bits, s.low)

pub returns-clause-few_cells : goal.returns-clause-few_cells
returns-clause-few_cells c = let s = c.loop-q.invariant in omega (arith, s.few_cells, s.low)
