use Rattle.std.proofs.Common.{◌∙◌, ap, arith, length, []}
use Rattle.std.proofs.lemmas.List.{get_or_read}
use Rattle.version_graph.specs.Domain.{row}
use Rattle.version_graph.proofs.domain.Domains.width.Goals as goal

pub returns : goal.returns
returns c =
    let here = get_or_read c.self.inside.rows.items c.args.p c.index.result.now (omega (arith, c.requires, ap length c.self.view_is)) c.index.ensures [] in
    c.width.ensures ∙ ap length here ∙ ap (λ d. length (row d c.args.p)) c.self.view_is
