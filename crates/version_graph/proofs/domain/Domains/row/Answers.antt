use Rattle.std.proofs.Common.{◌∙◌, ap, arith, length, []}
use Rattle.std.proofs.lemmas.List.{get_or_read}
use Rattle.version_graph.specs.Domain.{row}
use Rattle.version_graph.proofs.domain.Domains.row.Goals as goal

pub returns : goal.returns
returns c =
    get_or_read c.self.inside.rows.items c.args.p c.index.result.now (omega (arith, c.requires, ap length c.self.view_is)) c.index.ensures [] ∙ ap (λ d. row d c.args.p) c.self.view_is
