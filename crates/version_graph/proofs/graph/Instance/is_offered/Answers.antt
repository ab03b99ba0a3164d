use Rattle.std.proofs.Common.{◌∙◌, ◌<◌, not, ap, sym, subst, refl}
use Rattle.version_graph.specs.Graph.{Graph, packages, states, is_offered}
use Rattle.version_graph.specs.Stored.{told_by}
use Rattle.version_graph.proofs.GraphLemmas.{barred-read, offered-from_barred}
use Rattle.version_graph.proofs.graph.Instance.is_offered.Goals as goal

pub returns : goal.returns
returns c =
    let g = told_by c.self.inside.sizes.items c.self.inside.barred.items c.self.inside.links.items in
    let known : c.args.p < packages g = subst (λ (h : Graph). c.args.p < packages h) (sym c.self.view_is) c.requires.known in
    let state : c.args.i < states g c.args.p = subst (λ (h : Graph). c.args.i < states h c.args.p) (sym c.self.view_is) c.requires.state in
    let read = barred-read g c.self.inside.barred.items refl c.self.invariant.kept c.args.p c.args.i
    known state c.index.result.now c.index.ensures c.index-2.result.now c.index-2.ensures in
    ap not read ∙ sym (offered-from_barred g c.args.p c.args.i known state) ∙ ap (λ (h : Graph). is_offered h c.args.p c.args.i) c.self.view_is
