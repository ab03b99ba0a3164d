use Rattle.std.proofs.Common.{map, subst}
use Rattle.offer_terms.specs.Demanded.{wanted, spec_entry, version_entry}
use Rattle.selection_check.specs.Opening.{Narrows, IsFree, IsWithin}
use Rattle.selection_check.proofs.OpenLemmas.{all_open}
use Rattle.selection_check.proofs.opening.open_allowed.Goals as goal

pub returns-clause-opens : goal.returns-clause-opens
returns-clause-opens c =
    let book = c.args.book.now in
    let full = c.fill.new.self in
    let first = c.shut_pinned.new.table in
    let second = c.shut_pinned-2.new.table in
    let third = c.shut_project.new.table in
    all_open book (wanted c.args.demand.now) c.args.selection.now.items c.args.table.now full first second third c.shut_selected.new.table c.requires.made c.requires.few c.fill.ensures
    (subst (λ xs. Narrows book full first (IsFree (map version_entry xs))) c.items.ensures c.shut_pinned.ensures.narrows)
    (subst (λ xs. Narrows book first second (IsFree (map version_entry xs))) c.items-2.ensures c.shut_pinned-2.ensures.narrows)
    (subst (λ xs. Narrows book second third (IsWithin (map spec_entry xs))) c.items-3.ensures c.shut_project.ensures.narrows)
    c.shut_selected.ensures.narrows
