use Rattle.std.proofs.Common.{◌≡◌, ◌∙◌, ◌<◌, ◌-◌, get_or, refl, ap, sym, subst, arith, ◌&&◌}
use Rattle.std.proofs.lemmas.Bool.{lt-ltb}
use Rattle.std.proofs.lemmas.List.{get_or_read}
use Rattle.version_graph.specs.Graph.{Graph, packages, is_root, is_barred, last}
use Rattle.version_graph.specs.Stored.{told_by}
use Rattle.version_graph.proofs.GraphLemmas.{barred-read}
use Rattle.version_graph.proofs.graph.Instance.is_root.Goals as goal

pub returns : goal.returns
returns c =
    let g = told_by c.self.inside.sizes.items c.self.inside.barred.items c.self.inside.links.items in
    let known : c.args.p < packages g = subst (λ (h : Graph). c.args.p < packages h) (sym c.self.view_is) c.requires in
    let size : c.index-2.result.now ≡ get_or c.self.inside.sizes.items c.args.p 0 = get_or_read c.self.inside.sizes.items c.args.p c.index-2.result.now known c.index-2.ensures 0 in
    let some = c.self.invariant.kept.filled c.args.p known in
    let read = barred-read g c.self.inside.barred.items refl c.self.invariant.kept c.args.p (c.index-2.result.now - 1)
    known (omega (arith, size, some)) c.index.result.now c.index.ensures c.index-3.result.now c.index-3.ensures in
    read ∙ ap (λ n. is_barred g c.args.p (n - 1)) size
    ∙ sym (ap (λ x. x && is_barred g c.args.p (last g c.args.p)) (lt-ltb _ _ known))
    ∙ ap (λ (h : Graph). is_root h c.args.p) c.self.view_is
