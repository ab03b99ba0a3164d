use Rattle.std.proofs.Common.{◌≡◌, ◌<◌, ◌-◌, ℕ, List, subst, sym, length, get_or}
use Rattle.std.specs.List.Sorted.{IsStrictlyIncreasing}
use Rattle.version_graph.proofs.GraphLemmas.{rising-last, above-last}
use Rattle.version_graph.proofs.counting.link.Goals as goal

pub returns-clause-rising : goal.returns-clause-rising
returns-clause-rising c =
    let row = c.args.row.now.items in
    let apart = subst (λ (xs : List ℕ). 0 < length xs → get_or xs (length xs - 1) 0 ≡ c.args.q → ⊥) c.as_slice.ensures.value c.if-ends_with.ensures in
    subst (λ (xs : List ℕ). IsStrictlyIncreasing xs) (sym c.in_ok-push.ensures.items) (rising-last row c.args.q c.requires.rising (above-last row c.args.q c.requires.last apart))
