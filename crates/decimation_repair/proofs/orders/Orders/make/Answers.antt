use Rattle.std.proofs.Common.{◌∙◌, ◌≤◌, ◌+◌, ◌∷◌, [], ap, sym, subst, arith, length, get_or, length-append}
use Rattle.version_graph.specs.Graph.{states}
use Rattle.decimation_repair.specs.Ordered.{rooms_of}
use Rattle.decimation_repair.proofs.OrderLemmas.{roomy, one-more-room}
use Rattle.decimation_repair.proofs.orders.Orders.make.Goals as goal

pub loop-p-preserved : goal.loop-p-preserved
loop-p-preserved c =
    let g = c.args.instance.now in
    let old = c.loop-p.rows.items in
    let v = c.in_ok-with_capacity.field-0 in
    let new = c.in_ok-push.ensures.items in
    let much = c.in_ok-with_capacity.ensures.capacity in
    let count = c.states.ensures.count in
    record {
      each = ap length new ∙ length-append old (v ∷ []) ∙ ap (λ n. n + 1) c.loop-p.invariant.each;
      room = λ q h. subst (λ l. states g q ≤ get_or (rooms_of l) q 0) (sym new) (one-more-room g old c.loop-p.p v c.loop-p.invariant.each c.loop-p.invariant.room (omega (arith, much, count)) q h);
    }

pub returns : goal.returns
returns c =
    let done = c.loop-p-test.false in
    let end = c.packages-p-end.ensures.count in
    let few = c.loop-p.auto.p-end in
    roomy c.args.instance.now c.loop-p.rows.items c.loop-p.p c.loop-p.invariant.each (omega (arith, done, end, few)) c.loop-p.invariant.room
