use Rattle.std.proofs.Common.{◌≡◌, ◌-◌, ◌<◌, ℕ, length, arith}
use Rattle.version_graph.specs.Graph.{is_forbidden}
use Rattle.maxsum_messages.proofs.Partners.{barred-more, first-allowed, none-allowed, turned-false, turned-true}
use Rattle.maxsum_messages.proofs.weighed.best_partner.Goals as goal

pub loop-k-init : goal.loop-k-init
loop-k-init g c l d h inside = absurd (omega (arith, h, inside))

pub loop-k-preserved : goal.loop-k-preserved
loop-k-preserved g c =
    barred-more c.args.weighed.now (λ i. is_forbidden c.args.instance.now c.args.p i c.args.q c.args.j) c.loop-k.k c.index-weighed-count-in-loop-k.result (omega arith)
    (turned-false _ _ c.allowed.ensures c.if-allowed.false) c.loop-k.invariant

pub returns-then-allowed-clause-best : goal.returns-then-allowed-clause-best
returns-then-allowed-clause-best g c test value i weighed t =
    first-allowed g.W.Ord.cmp g.met.W.Ord.total c.args.weighed.now (λ k. is_forbidden c.args.instance.now c.args.p k c.args.q c.args.j) test value weighed
    c.requires.rising.sorted c.loop-k.k c.index-weighed-count.result c.index-weighed-count-in-loop-k.result (omega arith)
    (turned-true _ _ c.allowed.ensures c.if-allowed.true) c.loop-k.invariant

pub returns-clause-best : goal.returns-clause-best
returns-clause-best g c test value i weighed t =
    absurd (none-allowed g.W.Ord.cmp g.met.W.Ord.total c.args.weighed.now (λ k. is_forbidden c.args.instance.now c.args.p k c.args.q c.args.j) test value weighed
    c.loop-k.k (omega arith) c.loop-k.invariant i t)
