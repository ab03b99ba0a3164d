use Rattle.std.proofs.Common.{◌≡◌, ◌∙◌, ◌-◌, sym, ap, length}
use Rattle.version_graph.specs.Flat.{Flat}
use Rattle.version_graph.proofs.FlatLemmas.{length-cut}
use Rattle.version_graph.proofs.flat_rows.FlatRows.count.Goals as goal

pub returns : goal.returns
returns c =
    ap (λ n. n - 1) (c.len.ensures ∙ c.self.inside.starts.ok.0) ∙ sym (length-cut c.self.inside.starts.items c.self.inside.numbers.items)
    ∙ ap (λ (f : Flat). length f.rows) c.self.view_is
