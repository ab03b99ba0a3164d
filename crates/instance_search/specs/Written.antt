-- The nodes of a walk by the numbers before pruning. (own rule)
use Rattle.std.specs.Prelude.{◌≡◌, ℕ, List, None, take}
use Rattle.version_graph.specs.Part.{Part}
use Rattle.refutation_log.specs.declared.node.Node.{Node}
use Rattle.refutation_log.specs.Tree.{Tree, preorder}
use Rattle.refutation_log.specs.Renumbered.{renumbered}

-- the nodes are the front of a tree's pre-order list, and the log is as long a front of that of the tree in which each
-- package and state has its number before pruning
pub record IsWritten (b : Part) (nodes log : List Node) : Type 0 where
  pub tree : Tree
  pub count : ℕ
  pub walked : nodes ≡ take count (preorder None tree)
  pub written : log ≡ take count (preorder None (renumbered b tree))
