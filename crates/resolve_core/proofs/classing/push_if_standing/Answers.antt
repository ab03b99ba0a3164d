use Rattle.std.proofs.Common.{◌∙◌, ◌++◌, ◌∷◌, [], cond, map, append-nil, ap, sym}
use Rattle.resolve_core.specs.Classed.{ClassSaid, class_said}
use Rattle.resolve_core.proofs.classing.push_if_standing.Goals as goal

pub returns-then-not-does_stand : goal.returns-then-not-does_stand
returns-then-not-does_stand c =
    let old = map class_said c.args.table.now.items in
    let it : ClassSaid = record { number = c.args.package; standing = c.args.state; members = c.args.members.now.items } in
    sym (append-nil old) ∙ ap (λ b. old ++ cond b (it ∷ []) []) (sym (sym c.does_stand.ensures ∙ c.if-not-does_stand.true))

pub returns : goal.returns
returns c =
    let old = map class_said c.args.table.now.items in
    let it : ClassSaid = record { number = c.args.package; standing = c.args.state; members = c.args.members.now.items } in
    c.in_ok-push_class.ensures ∙ ap (λ b. old ++ cond b (it ∷ []) []) (sym (sym c.does_stand.ensures ∙ c.if-not-does_stand.false))
