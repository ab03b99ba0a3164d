use Rattle.std.proofs.Common.{◌∷◌, ◌++◌, [], ap, sym, ◌∙◌}
use Rattle.resolve_core.proofs.Classes.{items_set_here, items_set_other, items_of}
use Rattle.resolve_core.proofs.classing.add_member.Goals as goal

pub returns-clause-here : goal.returns-clause-here
returns-clause-here c =
    items_set_here c.args.lists.now.items c.args.place _ c.requires ∙ c.in_ok-push.ensures.ok
    ∙ ap (λ xs. xs ++ c.args.state ∷ []) (sym (items_of c.args.lists.now.items c.args.place c.index_mut-list.result.now c.requires c.index_mut-list.ensures.value))

pub returns-clause-others : goal.returns-clause-others
returns-clause-others c s ne = items_set_other c.args.lists.now.items c.args.place s _ ne
