use Rattle.std.proofs.Common.{◌∙◌, ◌++◌, [], cond, ap, sym}
use Rattle.version_graph.specs.Graph.{states}
use Rattle.version_graph.specs.Domain.{has}
use Rattle.graph_pruning.specs.Marked.{marked, standing_in}
use Rattle.resolve_core.specs.Classed.{classes_of}
use Rattle.resolve_core.proofs.Classes.{package_next}
use Rattle.resolve_core.proofs.classing.classes_left.Goals as goal

pub loop-package-preserved : goal.loop-package-preserved
loop-package-preserved c =
    let g = c.args.instance.now in
    let f = has c.args.domains.now in
    let standing = standing_in c.args.pruned.now.classes in
    let kept = marked c.args.pruned.now.kept in
    let n = c.loop-package.package in
    c.in_ok-push_if_kept.ensures ∙ ap (λ xs. xs ++ cond (kept n) (classes_of f standing n (states g n)) []) c.loop-package.invariant
    ∙ sym (package_next g f standing kept n)
