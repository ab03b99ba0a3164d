-- A tree that refutes an instance refutes each one that is like it.
use Rattle.std.proofs.Common.{ℕ, ◌<◌, List, [], ◌∷◌, ◌++◌}
use Rattle.version_graph.specs.Graph.{Graph, packages}
use Rattle.graph_pruning.specs.Pruned.{Pruning}
use Rattle.refutation_log.specs.declared.node.Node.{Node}
use Rattle.refutation_log.specs.Tree.{Tree, Children, leaf, branch, done, child}
use Rattle.refutation_log.specs.Refutes.{Prefix, Refutes, EachRefutes, IsRefutation}
use Rattle.alike_refutations.specs.Alike.{IsLike}
use Rattle.alike_refutations.proofs.Closed.{like_back, package_over, state_over, closure_over, empty_over}
use Rattle.alike_refutations.proofs.Pruned.{pruning_over}

module _ (g h : Graph) (l : IsLike g h) (pr : Pruning) where
  mutual
    refutes_over : (prefix : Prefix) (t : Tree) → Refutes g pr prefix t → Refutes h pr prefix t
    refutes_over prefix leaf r = empty_over g h l prefix r
    refutes_over prefix (branch p cs) r = (
      package_over g h l p r.0,
      r.1,
      r.2,
      record { covers = λ i k. r.3.covers i (closure_over h g (like_back g h l) prefix p i k) },
      each_over prefix p r.0 cs r.4,
    )

    each_over : (prefix : Prefix) (p : ℕ) → p < packages g → (cs : Children) → EachRefutes g pr prefix p cs → EachRefutes h pr prefix p cs
    each_over prefix p known done r = tt
    each_over prefix p known (child i t cs) r = (state_over g h l p i known r.0, refutes_over (prefix ++ (p, i) ∷ []) t r.1, each_over prefix p known cs r.2)

pub refuted : (g h : Graph) (log : List Node) → IsLike g h → IsRefutation g log → IsRefutation h log
refuted g h log l r = record {
  pruning = r.pruning;
  prunes = pruning_over g h l r.pruning r.prunes;
  tree = r.tree;
  listed = r.listed;
  refutes = refutes_over g h l r.pruning [] r.tree r.refutes;
}
