use Rattle.std.proofs.Common.{◌∙◌, ◌<◌, length, get_or, ap, sym, arith, []}
use Rattle.std.proofs.lemmas.List.{get_or_read}
use Rattle.maxsum_messages.proofs.Rows.{row-read, cell}
use Rattle.maxsum_messages.proofs.grid.Grid.get.Goals as goal

pub returns : goal.returns
returns g c =
    let same = c.self.view_is in
    let here = row-read c.self.inside.rows.items c.args.r c.index.result.now c.index.ensures (omega (arith, c.requires.row, ap length same)) in
    let there : c.args.c < length c.index.result.now.items = omega (arith, c.requires.place, ap length here, ap (λ d. length (get_or d c.args.r [])) same) in
    get_or_read c.index.result.now.items c.args.c c.index-2.result.now there c.index-2.ensures g.W.Weight.none
    ∙ ap (λ r. get_or r c.args.c g.W.Weight.none) (sym here) ∙ ap (λ d. cell g.W.Weight.none d c.args.r c.args.c) same
