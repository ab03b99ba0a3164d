use Rattle.std.proofs.Common.{◌≡◌, get_or, arith, ap, ◌∙◌, subst}
use Rattle.selection_check.specs.Needing.{is_marked, Marks}
use Rattle.selection_check.proofs.NeedLemmas.{marked_inside, deps_needed}
use Rattle.selection_check.proofs.needing.spread.Goals as goal

pub deps_of-requires : goal.deps_of-requires
deps_of-requires c =
    let order = c.args.order.now.items in
    let at : c.number_at-package.result ≡ get_or order c.args.next 0 = c.number_at-package.ensures ∙ ap (λ o. get_or o c.args.next 0) c.as_slice.ensures.value in
    let inside = marked_inside c.args.marks.now.items (get_or order c.args.next 0) (c.requires.listed.marked c.args.next c.requires.place) in
    omega (arith, at, inside, c.requires.listed.each)

pub returns-clause-needed : goal.returns-clause-needed
returns-clause-needed c = λ w needed.
    let order = c.args.order.now.items in
    let marks = c.args.marks.now.items in
    let at : c.number_at-package.result ≡ get_or order c.args.next 0 = c.number_at-package.ensures ∙ ap (λ o. get_or o c.args.next 0) c.as_slice.ensures.value in
    deps_needed c.args.book.now w c.args.selection.now.items marks c.mark_all.new.marks.items c.number_at-package.result (ap (is_marked marks) at ∙ c.requires.listed.marked c.args.next c.requires.place)
    (subst (λ xs. Marks c.args.book.now xs marks c.mark_all.new.marks.items) c.deps_of.ensures c.mark_all.ensures.marks) needed
