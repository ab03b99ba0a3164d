use Rattle.std.proofs.Common.{◌≡◌, [], ◌∷◌, ◌++◌, sym, ap, ◌∙◌, arith, append_assoc, append-nil}
use Rattle.std.proofs.lemmas.Grind.{common_steps}
use Rattle.toml_view.proofs.Walks.{Entry, pairs-next, names-next, by_name-keys}
use Rattle.toml_view.proofs.readers.read_pairs.Goals as goal

pub members-preserved : goal.members-preserved
members-preserved g c =
    let (can, finite, same, done, whole, names) = c.members.invariant in
    let e : Entry = (c.in-Some.key.now, c.in-Some.value.now) in
    let iter : c.members.key-iterator ≡ e ∷ c.next.new.self = grind (arith, common_steps) in
    let head = c.in_ok-of.ensures ∙ c.as_str-in-members.ensures.value in
    let found = rw c.as_str.ensures.value at c.in_ok-found.ensures.ok in
    let all = whole ∙ ap (λ t. done ++ t) iter ∙ sym (append_assoc done (e ∷ []) c.next.new.self) in
    let pushed = c.in_ok-push.ensures.ok in (
      tt,
      tt,
      rw pushed (pairs-next (g.R.Reader.gives c.args.reader.now) c.members.pairs.items c.in_ok-of.field-0 c.in_ok-found.found c.members.key-iterator c.next.new.self e _ iter head found same),
      done ++ e ∷ [],
      all,
      rw pushed (names-next c.members.pairs.items done (c.in_ok-of.field-0, c.in_ok-found.found) e names head),
    )

pub returns-clause-by_name : goal.returns-clause-by_name
returns-clause-by_name g c =
    let (can, finite, same, done, whole, names) = c.members.invariant in
    let none : c.members.key-iterator ≡ [] = grind (arith, common_steps) in
    let all : c.args.table.now.entries ≡ done = whole ∙ rw none (append-nil done) in
    by_name-keys c.members.pairs.items done names (rw all at c.iter-key-items.ensures.ordered)
