use Rattle.version_graph.specs.Domain.{has}
use Rattle.version_graph.specs.Family.{under}
use Rattle.decimation_repair.specs.Path.{prefix_of}
use Rattle.decimation_repair.proofs.heard.Heard.renew.Goals as goal

pub hear-requires-clause-closed : goal.hear-requires-clause-closed
hear-requires-clause-closed c =
    let g = c.args.instance.now in
    c.closure_is_stable.ensures g (under g (prefix_of c.args.path.now)) (has c.lay.new.domains) c.lay.ensures.closed
