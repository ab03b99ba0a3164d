use Rattle.std.proofs.Common.{◌≡◌, ◌∙◌, ◌∷◌, [], ap}
use Rattle.version_graph.specs.Flat.{cut, Flat}
use Rattle.version_graph.proofs.FlatLemmas.{cut-kept}
use Rattle.version_graph.proofs.flat_rows.FlatRows.push.Goals as goal

pub returns-clause-rows : goal.returns-clause-rows
returns-clause-rows c =
    ap (cut c.self.inside.starts.items) c.in_ok-push.ensures.items
    ∙ cut-kept c.self.inside.starts.items c.self.inside.numbers.items (c.args.number ∷ []) c.self.invariant
    ∙ ap (λ (f : Flat). f.rows) c.self.view_is
