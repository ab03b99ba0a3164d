use Rattle.std.proofs.Common.{◌≡◌, ◌∙◌, ◌++◌, ◌∷◌, [], inl, inr, sym, subst}
use Rattle.std.proofs.lemmas.Bool.{cases_eq}
use Rattle.version_graph.specs.Domain.{has}
use Rattle.graph_pruning.specs.Marked.{standing_in}
use Rattle.resolve_core.specs.Classed.{items_at}
use Rattle.resolve_core.proofs.Classes.{members_same, members_here, members_apart}
use Rattle.resolve_core.proofs.classing.list_state.Goals as goal

pub returns-then-not-has-clause-lists : goal.returns-then-not-has-clause-lists
returns-then-not-has-clause-lists c s inside =
    members_same (has c.args.domains.now) (standing_in c.args.classes.now) c.args.package c.args.state s (items_at c.args.members.now.items s) (sym c.has.ensures ∙ c.if-not-has.true)

pub returns-clause-lists : goal.returns-clause-lists
returns-clause-lists c s inside =
    let f = has c.args.domains.now in
    let standing = standing_in c.args.classes.now in
    let p = c.args.package in
    let here = sym c.has.ensures ∙ c.if-not-has.false in
    let old = items_at c.args.members.now.items s in
    elim (cases_eq s (standing p c.args.state)) [
      | inl same ↦
          subst (λ t. items_at c.add_member.new.lists.items t ≡ items_at c.args.members.now.items t ++ c.args.state ∷ []) (c.standing-standing.ensures ∙ sym same) c.in_ok-add_member.ensures.here
          ∙ members_here f standing p c.args.state s old here (sym same)
      | inr ne ↦ c.in_ok-add_member.ensures.others s (λ e. ne (e ∙ c.standing-standing.ensures)) ∙ members_apart f standing p c.args.state s old here ne
    ]
