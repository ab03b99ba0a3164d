use Rattle.std.proofs.Common.{◌≡◌, ◌∙◌, ◌++◌, ◌∷◌, [], cond, map, List, ℕ, ap, sym, arith}
use Rattle.std.proofs.lemmas.List.{append_assoc}
use Rattle.version_graph.specs.Domain.{has}
use Rattle.graph_pruning.specs.Marked.{does_stand, standing_in}
use Rattle.resolve_core.specs.Classed.{class_said, class_of}
use Rattle.resolve_core.proofs.Classes.{class_list, class_next, items_of}
use Rattle.resolve_core.proofs.classing.push_classes.Goals as goal

pub loop-state-preserved : goal.loop-state-preserved
loop-state-preserved c =
    let f = has c.args.domains.now in
    let standing = standing_in c.args.classes.now in
    let p = c.args.package in
    let n = c.args.count in
    let s = c.loop-state.state in
    let first = map class_said c.args.table.now.items in
    let stands = does_stand f standing p s in
    let same : c.index-states.result.now.items ≡ (class_of f standing p n s).members =
    sym (items_of c.in_ok-members.members.items s c.index-states.result.now (omega (arith, c.loop-state-test.true, c.in_ok-members.ensures.each)) c.index-states.ensures)
    ∙ c.in_ok-members.ensures.members s (omega (arith, c.loop-state-test.true)) in
    c.in_ok-push_if_standing.ensures ∙ ap (λ xs. xs ++ cond stands (record { number = p; standing = s; members = c.index-states.result.now.items } ∷ []) []) c.loop-state.invariant
    ∙ append_assoc first (class_list f standing p n s) _
    ∙ ap (λ (xs : List ℕ). first ++ (class_list f standing p n s ++ cond stands (record { number = p; standing = s; members = xs } ∷ []) [])) same
    ∙ ap (λ r. first ++ r) (sym (class_next f standing p n s))
