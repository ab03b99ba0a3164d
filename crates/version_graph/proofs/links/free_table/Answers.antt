use Rattle.std.proofs.Common.{◌∙◌, ap, map, true}
use Rattle.version_graph.proofs.LinkLemmas.{filled-is}
use Rattle.version_graph.proofs.links.free_table.Goals as goal

pub returns : goal.returns
returns c = c.fill.ensures ∙ ap (map (λ xs. map (λ b. true) xs)) c.in_ok-table.ensures ∙ filled-is c.args.count c.args.width
