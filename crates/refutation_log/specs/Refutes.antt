-- When a log refutes an instance. (own rule: a search tree, whose leaves are dead ends, leaves no solution)
use Rattle.std.specs.Prelude.{◌≡◌, ℕ, ◌<◌, Bool, true, false, ◌==◌, List, [], ◌∷◌, ◌++◌, None}
use Rattle.std.specs.List.{list_any}
use Rattle.version_graph.specs.Graph.{Graph, packages, states, IsGraph, IsPlain, IsSolution}
use Rattle.version_graph.specs.Family.{HasEmpty, InClosure, under}
use Rattle.graph_pruning.specs.Pruned.{Pruning, IsPruningOf}
use Rattle.refutation_log.specs.declared.node.Node.{Node}
use Rattle.refutation_log.specs.Tree.{Tree, Children, leaf, branch, done, child, has_standing, preorder}

-- the choices on the way to a node, as package and state
abbrev pub Prefix : Type 0
Prefix = List (ℕ × ℕ)

-- whether the prefix chooses a state of this package
abbrev pub is_chosen : Prefix → ℕ → Bool
is_chosen prefix p = list_any (λ c. c.0 == p) prefix

-- each state of the closed domain of p under the prefix is a child's state, or is equal to one: one state stands for both
pub record IsCovered (g : Graph) (pr : Pruning) (prefix : Prefix) (p : ℕ) (cs : Children) : Type 0 where
  pub covers : (i : ℕ) → InClosure g (under g prefix) p i → has_standing cs (pr.standing p) (pr.standing p i) ≡ true

-- A leaf refutes a prefix whose closure has an empty domain. A branch refutes a prefix where its package is kept
-- and isn't chosen, its children cover the package's closed domain, and each child's state is one of the package
-- and its tree refutes the prefix with that choice added. What is kept and what is equal the pruning says.
abbrev mutual
  pub Refutes : Graph → Pruning → Prefix → Tree → Type 0
  Refutes g pr prefix leaf = HasEmpty g (under g prefix)
  Refutes g pr prefix (branch p cs) =
      (p < packages g) × (pr.kept p ≡ true) × (is_chosen prefix p ≡ false) × IsCovered g pr prefix p cs × EachRefutes g pr prefix p cs

  pub EachRefutes : Graph → Pruning → Prefix → ℕ → Children → Type 0
  EachRefutes g pr prefix p done = Unit {0}
  EachRefutes g pr prefix p (child i t cs) =
      (i < states g p) × Refutes g pr (prefix ++ (p, i) ∷ []) t × EachRefutes g pr prefix p cs

-- the nodes are the pre-order list of one whole tree, whose first node has no state, and which refutes the empty
-- prefix by the instance's pruning
pub record IsRefutation (g : Graph) (nodes : List Node) : Type 0 where
  pub pruning : Pruning
  pub prunes : IsPruningOf g pruning
  pub tree : Tree
  pub listed : nodes ≡ preorder None tree
  pub refutes : Refutes g pruning [] tree

abbrev pub HasNoSolution : Graph → Type 0
HasNoSolution g = (chosen : List ℕ) → IsSolution g chosen → ⊥

-- ---- laws

-- a log that refutes a plain instance leaves no solution, whoever made it
abbrev pub RefutationIsSound : Type 0
RefutationIsSound = (g : Graph) (nodes : List Node) → IsGraph g → IsPlain g → IsRefutation g nodes → HasNoSolution g
