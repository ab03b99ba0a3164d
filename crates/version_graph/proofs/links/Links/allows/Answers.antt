use Rattle.std.proofs.Common.{◌∙◌, ap}
use Rattle.bit_rows.specs.Rows.{row_at, truth_at}
use Rattle.version_graph.proofs.LinkLemmas.{table_of}
use Rattle.version_graph.proofs.links.Links.allows.Goals as goal

pub returns-in-Some-clause-some : goal.returns-in-Some-clause-some
returns-in-Some-clause-some c k h e =
    c.get.ensures ∙ ap (λ t. truth_at (row_at t c.args.i) c.args.j) (table_of _ c.args.self.now c.self.view_is c.self.invariant c.index.result.now c.in-Some.place k c.args.q c.in-Some.ensures.0 c.in-Some.ensures.1 h e c.index.ensures)
