use Rattle.std.proofs.Common.{◌∙◌, length, ap, arith, []}
use Rattle.std.proofs.lemmas.List.{get_or_read}
use Rattle.bit_rows.specs.Rows.{truth_at}
use Rattle.version_graph.specs.Domain.{has, row}
use Rattle.version_graph.proofs.domain.Domains.has.Goals as goal

pub get-requires : goal.get-requires
get-requires c =
    let here = get_or_read c.self.inside.rows.items c.args.p c.index.result.now (omega (arith, c.requires.known, ap length c.self.view_is)) c.index.ensures [] in
    omega (arith, c.requires.state, ap length here, ap (λ d. length (row d c.args.p)) c.self.view_is)

pub returns : goal.returns
unfolding has
returns c =
    let here = get_or_read c.self.inside.rows.items c.args.p c.index.result.now (omega (arith, c.requires.known, ap length c.self.view_is)) c.index.ensures [] in
    c.get.ensures ∙ ap (λ r. truth_at r c.args.i) here ∙ ap (λ d. truth_at (row d c.args.p) c.args.i) c.self.view_is
