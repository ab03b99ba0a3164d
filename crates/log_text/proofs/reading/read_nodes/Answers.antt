-- a node more, or how the reading ends
use Rattle.std.proofs.Common.{◌+◌, ◌-◌, arith, sym, ap, ◌∙◌, Err}
use Rattle.std.specs.Prelude.{◌==◌}
use Rattle.pkg_world.specs.Each.{onto}
use Rattle.log_text.specs.Meant.{nodes_meant}
use Rattle.log_text.proofs.Nodes.{nodes_go, nodes_stop, nodes_end, nodes_done, nodes_over}
use Rattle.log_text.proofs.reading.read_nodes.Goals as goal

pub returns-in-None : goal.returns-in-None
returns-in-None c =
    nodes_stop _ c.loop-place.log.items c.args.count c.loop-place.place c.loop-place.rest.now (omega arith) c.in-None.ensures c.loop-place.invariant
    ∙ ap (λ n. Err (n + 2)) (sym c.from.ensures)

pub loop-place-preserved : goal.loop-place-preserved
loop-place-preserved c =
    nodes_go _ c.loop-place.log.items c.args.count c.loop-place.place c.loop-place.rest.now c.in-Some.after.now c.in-Some.node (omega arith) c.in-Some.ensures c.loop-place.invariant
    ∙ ap (λ items. onto items (nodes_meant (c.args.count - (c.loop-place.place + 1)) ((c.loop-place.place + 1) == 0) (c.loop-place.place + 1 + 2) c.in-Some.after.now)) (sym c.in_ok-push-in-Some.ensures.ok)

pub returns-then-is_empty : goal.returns-then-is_empty
returns-then-is_empty c =
    nodes_end _ c.loop-place.log.items c.args.count c.loop-place.place c.loop-place.rest.now (omega arith) c.loop-place.invariant
    ∙ nodes_done c.loop-place.log.items (c.args.count + 2) c.loop-place.rest.now (sym c.if-is_empty.ensures)

pub returns-else-is_empty : goal.returns-else-is_empty
returns-else-is_empty c =
    nodes_end _ c.loop-place.log.items c.args.count c.loop-place.place c.loop-place.rest.now (omega arith) c.loop-place.invariant
    ∙ nodes_over c.loop-place.log.items (c.args.count + 2) c.loop-place.rest.now (sym c.if-is_empty.ensures)
    ∙ ap (λ n. Err (n + 2)) (sym c.from-else-is_empty.ensures)
