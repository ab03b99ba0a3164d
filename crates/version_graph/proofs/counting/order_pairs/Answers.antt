use Rattle.std.proofs.Common.{◌≡◌, ◌∙◌, ◌&&◌, Bool, ap, sym, subst, eqb}
use Rattle.std.proofs.lemmas.List.Filters.{dedup_is}
use Rattle.std.proofs.lemmas.List.Sorted.{list_any-IsPermutation}
use Rattle.version_graph.specs.Keys.{Key, is_in, AreInOrder}
use Rattle.version_graph.proofs.OrderLemmas.{dedup_in, dedup_ordered}
use Rattle.version_graph.proofs.counting.order_pairs.Goals as goal

pub returns-clause-same : goal.returns-clause-same
returns-clause-same c p i q j =
    let test : Key → Bool = λ k. (eqb k.0 p && eqb k.2 i) && (eqb k.1 q && eqb k.3 j) in
    ap (λ (ks : _). is_in ks p i q j) (dedup_is _ _ _ c.dedup.ensures.filtered) ∙ dedup_in c.sort_unstable.new.self.items p i q j
    ∙ sym (list_any-IsPermutation test c.args.pairs.now.items _ c.sort_unstable.ensures.permutation)

pub returns-clause-ordered : goal.returns-clause-ordered
returns-clause-ordered c =
    subst AreInOrder (sym (dedup_is _ _ _ c.dedup.ensures.filtered)) (dedup_ordered _ c.sort_unstable.ensures.sorted)
