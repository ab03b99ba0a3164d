use Rattle.std.proofs.Common.{◌≡◌, [], ◌++◌, map, ap, ◌∙◌, append-nil, subst, arith}
use Rattle.std.proofs.lemmas.Grind.{common_steps}
use Rattle.offer_terms.specs.ById.{AreRising}
use Rattle.book_graph.proofs.selecting.listed.Goals as goal

pub of-requires : goal.of-requires
of-requires c =
    let none : c.versions.left.entries ≡ [] = grind (arith, common_steps) in
    let whole : c.args.versions.entries ≡ c.versions.list.items = c.versions.invariant ∙ ap (λ r. c.versions.list.items ++ r) none ∙ append-nil c.versions.list.items in
    subst AreRising (ap (map (λ e. e.0)) whole) c.len-count.ensures.ordered
