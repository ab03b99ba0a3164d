use Rattle.std.proofs.Common.{◌∙◌, ap}
use Rattle.bit_rows.specs.Rows.{row_at, agree_under}
use Rattle.version_graph.proofs.LinkLemmas.{table_of}
use Rattle.version_graph.proofs.links.Links.are_alike.Goals as goal

pub returns-in-Some-clause-some : goal.returns-in-Some-clause-some
returns-in-Some-clause-some c k h e =
    c.equal.ensures ∙ ap (λ t. agree_under (row_at t c.args.i) (row_at t c.args.j) c.args.row.now) (table_of _ c.args.self.now c.self.view_is c.self.invariant c.index.result.now c.in-Some.place k c.args.q c.in-Some.ensures.0 c.in-Some.ensures.1 h e c.index.ensures)
