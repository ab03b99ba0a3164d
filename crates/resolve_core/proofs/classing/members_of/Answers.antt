use Rattle.std.proofs.Common.{◌∙◌, ◌++◌, ◌∷◌, ◌&&◌, ◌==◌, [], cond, ap, sym, arith}
use Rattle.version_graph.specs.Domain.{has}
use Rattle.graph_pruning.specs.Marked.{standing_in}
use Rattle.resolve_core.proofs.Classes.{members_next}
use Rattle.resolve_core.proofs.classing.members_of.Goals as goal

pub loop-state-preserved : goal.loop-state-preserved
loop-state-preserved c =
    let inv = c.loop-state.invariant in
    let f = has c.args.domains.now in
    let standing = standing_in c.args.classes.now in
    let p = c.args.package in
    let i = c.loop-state.state in
    record {
      each = c.list_state.ensures.each ∙ inv.each;
      lists = λ s below.
          c.in_ok-list_state.ensures.lists s (omega (arith, below, inv.each)) ∙ ap (λ xs. xs ++ cond (f p i && (standing p i == s)) (i ∷ []) []) (inv.lists s below)
          ∙ sym (members_next f standing p i s);
    }
