use Rattle.std.proofs.Common.{◌∙◌, refl, sym, subst, ℕ, ◌<◌, length, get_or}
use Rattle.version_graph.specs.Domain.{has}
use Rattle.graph_pruning.specs.Pruned.{SameIn}
use Rattle.graph_pruning.proofs.ReachLemmas.{known_in}
use Rattle.graph_pruning.proofs.ClassLemmas.{class_more}
use Rattle.graph_pruning.proofs.equality.ClassRow.place.Goals as goal

pub returns-in_ok-push-in-None : goal.returns-in_ok-push-in-None
returns-in_ok-push-in-None c =
    let g = c.args.instance.now in
    let d = c.args.domains.now in
    class_more g (has d) c.args.p c.args.i c.args.self.now _ (λ j there. (known_in g d c.args.p j c.requires.made there).1) c.requires.state (sym c.has.ensures ∙ c.if-not-has.false)
    (subst (λ xs. (k : ℕ) → k < length xs → SameIn g (has d) c.args.p c.args.i (get_or xs k 0) → ⊥) c.as_slice.ensures.value c.in-None.ensures)
    refl c.in_ok-push-in-None.ensures.items c.requires.classing
