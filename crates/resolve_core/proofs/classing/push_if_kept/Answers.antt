use Rattle.std.proofs.Common.{◌∙◌, ◌++◌, [], cond, map, append-nil, ap, sym}
use Rattle.version_graph.specs.Graph.{states}
use Rattle.version_graph.specs.Domain.{has}
use Rattle.graph_pruning.specs.Marked.{standing_in}
use Rattle.resolve_core.specs.Classed.{class_said, classes_of}
use Rattle.resolve_core.proofs.classing.push_if_kept.Goals as goal

pub returns-then-not-has : goal.returns-then-not-has
returns-then-not-has c =
    let old = map class_said c.args.table.now.items in
    let row = classes_of (has c.args.domains.now) (standing_in c.args.pruned.now.classes) c.args.package (states c.args.instance.now c.args.package) in
    sym (append-nil old) ∙ ap (λ b. old ++ cond b row []) (sym (sym c.has.ensures ∙ c.if-not-has.true))

pub returns : goal.returns
returns c =
    let old = map class_said c.args.table.now.items in
    let f = has c.args.domains.now in
    let standing = standing_in c.args.pruned.now.classes in
    let row = classes_of f standing c.args.package (states c.args.instance.now c.args.package) in
    c.in_ok-push_classes.ensures ∙ ap (λ n. old ++ classes_of f standing c.args.package n) c.states-count.ensures.count
    ∙ ap (λ b. old ++ cond b row []) (sym (sym c.has.ensures ∙ c.if-not-has.false))
