use Rattle.std.proofs.Common.{◌∙◌, ◌<◌, ap, subst, arith, length, set}
use Rattle.std.proofs.lemmas.List.{map-set, length-map}
use Rattle.std.specs.declared.vec.Vec.{Vec}
use Rattle.version_graph.specs.Stored.{rows_of}
use Rattle.decimation_repair.specs.Ordered.{Ordered, KeepsRoom}
use Rattle.decimation_repair.proofs.OrderLemmas.{view_of, keeps-room}
use Rattle.decimation_repair.proofs.orders.Orders.write.Goals as goal

pub returns-clause-rows : goal.returns-clause-rows
returns-clause-rows c =
    let vs = c.self.inside.rows.items in
    map-set (λ (x : Vec _ _). x.items) vs c.args.p c.write_over.new.list
    ∙ ap (set (rows_of vs) c.args.p) c.write_over.ensures.items
    ∙ ap (λ (o : Ordered). set o.rows c.args.p c.args.states.now) c.self.view_is

pub returns-clause-room : goal.returns-clause-room
returns-clause-room c =
    let vs = c.self.inside.rows.items in
    let long = length-map vs (λ (x : Vec _ _). x.items) in
    let seen = ap (λ (o : Ordered). length o.rows) c.self.view_is in
    let inside : c.args.p < length vs = (let h = c.requires.known in omega (arith, h, long, seen)) in
    subst (λ (o : Ordered). KeepsRoom o (view_of (set vs c.args.p c.write_over.new.list))) c.self.view_is
    (keeps-room vs c.args.p c.index_mut.result.now c.write_over.new.list c.index_mut.ensures.value inside c.write_over.ensures.room)
