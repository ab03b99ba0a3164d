use Rattle.std.proofs.Common.{◌≡◌, ◌∙◌, ◌∷◌, ◌++◌, [], ℕ, ap}
use Rattle.version_graph.specs.Flat.{flat_of}
use Rattle.version_graph.proofs.FlatLemmas.{none-cut}
use Rattle.version_graph.proofs.flat_rows.FlatRows.make.Goals as goal

pub returns : goal.returns
returns c =
    let starts = c.in_ok-push.ensures.items ∙ ap (λ xs. xs ++ 0 ∷ []) c.new-starts.ensures.items in
    (λ i. flat_of (starts i) (c.new.ensures.items i))
    ∙ (λ i. record { rows = none-cut {T = ℕ} [] i; rest = [] })
