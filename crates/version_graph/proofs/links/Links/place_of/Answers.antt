use Rattle.std.proofs.Common.{◌≡◌, ◌∙◌, ◌<◌, ℕ, ap, subst, sym, List, length, get_or, Ok, Err}
use Rattle.std.specs.List.Sorted.{IsStrictlyIncreasing}
use Rattle.std.proofs.lemmas.List.Sorted.{searched}
use Rattle.version_graph.specs.Links.{Linked}
use Rattle.version_graph.specs.Stored.{includes}
use Rattle.version_graph.proofs.GraphLemmas.{increasing-ordered}
use Rattle.version_graph.proofs.LinkLemmas.{not_there}
use Rattle.version_graph.proofs.links.Links.place_of.Goals as goal

pub returns-in-Ok : goal.returns-in-Ok
returns-in-Ok c =
    let up = subst (λ (xs : List ℕ). IsStrictlyIncreasing xs) (sym c.deref.ensures.value) c.self.invariant.rising in
    let s = searched c.deref.result.now c.args.q (Ok c.in-Ok.place) c.in-Ok.ensures.position (increasing-ordered c.deref.result.now up) in
    let same : c.deref.result.now ≡ c.args.self.now.numbers = c.deref.ensures.value ∙ ap (λ (l : Linked). l.numbers) c.self.view_is in
    subst (λ (xs : List ℕ). (c.in-Ok.place < length xs) × (get_or xs c.in-Ok.place 0 ≡ c.args.q)) same s

pub returns-in-Err : goal.returns-in-Err
returns-in-Err c =
    let up = subst (λ (xs : List ℕ). IsStrictlyIncreasing xs) (sym c.deref.ensures.value) c.self.invariant.rising in
    let s = searched c.deref.result.now c.args.q (Err c.in-Err.field-0) c.in-Err.ensures.position (increasing-ordered c.deref.result.now up) in
    let same : c.deref.result.now ≡ c.args.self.now.numbers = c.deref.ensures.value ∙ ap (λ (l : Linked). l.numbers) c.self.view_is in
    ap (λ xs. includes xs c.args.q) (sym same) ∙ not_there c.deref.result.now c.args.q c.in-Err.field-0 s.1 s.2
