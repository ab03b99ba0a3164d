use Rattle.std.proofs.Common.{◌≡◌, ◌∙◌, ◌<◌, ℕ, ap, sym, subst, set, get_or, length, arith, []}
use Rattle.std.proofs.lemmas.List.{get_or_read}
use Rattle.version_graph.specs.Links.{Linked, number_at, table_at, IsInTable, Forbids}
use Rattle.version_graph.proofs.LinkLemmas.{cleared, cleared_forbids}
use Rattle.version_graph.proofs.links.Links.forbid.Goals as goal

pub returns-in-Some : goal.returns-in-Some
returns-in-Some c =
    let numbers = c.self.inside.numbers.items in
    let tables = c.self.inside.tables.items in
    let place = c.in-Some.place in
    let old : Linked = record { numbers = numbers; tables = tables } in
    let found = subst (λ (l : Linked). (place < length l.numbers) × (number_at l place ≡ c.args.q)) (sym c.self.view_is) c.in-Some.ensures in
    let fits = subst (λ (l : Linked). (k : ℕ) → k < length l.numbers → number_at l k ≡ c.args.q → IsInTable (table_at l k) c.args.i c.args.j) (sym c.self.view_is) c.requires in
    let inside : place < length tables = omega (arith, c.self.invariant.each, found.0) in
    let same : c.index_mut.result.now ≡ get_or tables place [] = get_or_read tables place c.index_mut.result.now inside c.index_mut.ensures.value [] in
    let new : c.clear.new.self ≡ cleared (get_or tables place []) c.args.i c.args.j = c.clear.ensures ∙ ap (λ t. cleared t c.args.i c.args.j) same in
    subst (λ (l : Linked). Forbids l (record { numbers = numbers; tables = set tables place c.clear.new.self }) c.args.i c.args.q c.args.j) c.self.view_is
    (subst (λ t. Forbids old (record { numbers = numbers; tables = set tables place t }) c.args.i c.args.q c.args.j) (sym new)
    (cleared_forbids numbers tables place c.args.i c.args.q c.args.j c.self.invariant found.0 found.1 (fits place found.0 found.1)))
