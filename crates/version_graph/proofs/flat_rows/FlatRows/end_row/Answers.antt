use Rattle.std.proofs.Common.{◌≡◌, ◌∙◌, ◌∷◌, ◌++◌, [], ap}
use Rattle.version_graph.specs.Flat.{cut, Flat}
use Rattle.version_graph.proofs.FlatLemmas.{row-ended}
use Rattle.version_graph.proofs.flat_rows.FlatRows.end_row.Goals as goal

pub returns-clause-rows : goal.returns-clause-rows
returns-clause-rows c =
    let starts = c.self.inside.starts.items in
    let numbers = c.self.inside.numbers.items in
    ap (λ s. cut s numbers) c.in_ok-push.ensures.items
    ∙ ap (λ n. cut (starts ++ n ∷ []) numbers) (c.len.ensures ∙ c.self.inside.numbers.ok.0)
    ∙ row-ended starts numbers c.self.invariant
    ∙ ap (λ (f : Flat). f.rows ++ f.rest ∷ []) c.self.view_is
