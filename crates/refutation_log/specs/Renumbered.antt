-- A log of a pruned instance, written by the numbers before pruning. (own rule)
use Rattle.std.specs.Prelude.{ℕ, []}
use Rattle.version_graph.specs.Graph.{Graph}
use Rattle.version_graph.specs.Part.{Part, package_of, state_of}
use Rattle.graph_pruning.specs.Pruned.{Pruning, IsUnpruned}
use Rattle.graph_pruning.specs.Reduced.{IsReduction}
use Rattle.refutation_log.specs.Tree.{Tree, Children, leaf, branch, done, child}
use Rattle.refutation_log.specs.Refutes.{Refutes}

-- the tree with each package and state by its number before pruning
abbrev mutual
  pub renumbered : Part → Tree → Tree
  renumbered b leaf = leaf
  renumbered b (branch p cs) = branch (package_of b p) (renumbered_each b p cs)

  pub renumbered_each : Part → ℕ → Children → Children
  renumbered_each b p done = done
  renumbered_each b p (child i t cs) = child (state_of b p i) (renumbered b t) (renumbered_each b p cs)

-- ---- laws

-- a tree that refutes the pruned instance, of which nothing is pruned again, refutes the instance by its pruning when it
-- is written by the numbers before
abbrev pub RenumberedRefutes : Type 0
RenumberedRefutes = (g : Graph) (pr : Pruning) (h : Graph) (b : Part) → IsReduction g pr h b → (own : Pruning) → IsUnpruned h own → (t : Tree) →
    Refutes h own [] t → Refutes g pr [] (renumbered b t)
