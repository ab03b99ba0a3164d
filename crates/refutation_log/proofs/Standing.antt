-- What stands for a state.
use Rattle.std.proofs.Common.{◌≡◌, ℕ, ◌<◌, Bool, true, false, not, List, [], slice_index_or, sym, ◌∙◌, arith, inl, inr}
use Rattle.std.proofs.lemmas.Bool.{cases_Bool, not-false}
use Rattle.version_graph.specs.Graph.{Graph, packages, states, is_offered}
use Rattle.version_graph.specs.Family.{Family, InClosure, under}
use Rattle.graph_pruning.specs.Pruned.{left, IsPruningOf}
use Rattle.graph_pruning.specs.Marked.{marked, standing_in, pruning_of}
use Rattle.graph_pruning.proofs.PruneLemmas.{closed_offered, closed_known, left_kept, left_closed}

pub standing_known : (g : Graph) (closed : Family) (kept : List Bool) (rows : List (List ℕ)) → IsPruningOf g (pruning_of closed kept rows) →
    (p i : ℕ) → p < packages g → i < states g p → standing_in rows p i < states g p
standing_known g closed kept rows k p i known state =
    elim (cases_Bool (left g (pruning_of closed kept rows) p i)) [
      | inl here ↦ (closed_known g closed p (standing_in rows p i) k.closure (left_closed g (pruning_of closed kept rows) p (standing_in rows p i) (k.classes.stands p i here).same.second)).1
      | inr out ↦ omega (arith, k.classes.others p i out, state)
    ]

pub standing_offered : (g : Graph) (closed : Family) (kept : List Bool) (rows : List (List ℕ)) (shut : List Bool) → IsPruningOf g (pruning_of closed kept rows) →
    ((p : ℕ) → p < packages g → slice_index_or shut p false ≡ not (marked kept p)) →
    (p i : ℕ) → slice_index_or shut p false ≡ false → InClosure g (under g []) p i → is_offered g p (standing_in rows p i) ≡ true
standing_offered g closed kept rows shut k marks p i free c =
    let here = k.closure.whole p i c in
    let held = not-false (marked kept p) (sym (marks p (closed_known g closed p i k.closure here).0) ∙ free) in
    let own = (k.classes.stands p i (left_kept g (pruning_of closed kept rows) p i held here)).same.second in
    closed_offered g closed p (standing_in rows p i) k.closure (left_closed g (pruning_of closed kept rows) p (standing_in rows p i) own)
