use Rattle.std.proofs.Common.{◌∙◌, length, set, ap, sym, arith}
use Rattle.std.proofs.lemmas.List.{map-set}
use Rattle.std.specs.declared.vec.Vec.{Vec}
use Rattle.version_graph.specs.Stored.{rows_of}
use Rattle.maxsum_messages.proofs.Rows.{row-read, written}
use Rattle.maxsum_messages.proofs.grid.Grid.set.Goals as goal

pub returns : goal.returns
returns g c =
    let vs = c.self.inside.rows.items in
    let here = row-read vs c.args.r c.index_mut-row.result.now c.index_mut-row.ensures.value (omega (arith, c.requires.row, ap length c.self.view_is)) in
    map-set (λ (x : Vec _ _). x.items) vs c.args.r _
    ∙ ap (λ r. set (rows_of vs) c.args.r (set r c.args.c c.args.w)) (sym here)
    ∙ ap (λ f. written f c.args.r c.args.c c.args.w) c.self.view_is
