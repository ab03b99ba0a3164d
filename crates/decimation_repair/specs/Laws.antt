-- What is true of the walk, whatever the fields. The proofs ask of the choice no more than that it is lawful.
use Rattle.std.specs.Prelude.{◌≡◌, ℕ, List, [], None}
use Rattle.version_graph.specs.Graph.{Graph, IsSolution}
use Rattle.graph_pruning.specs.Pruned.{Pruning, IsUnpruned}
use Rattle.refutation_log.specs.Tree.{Tree, preorder}
use Rattle.refutation_log.specs.Refutes.{Refutes, HasNoSolution}
use Rattle.refutation_log.specs.declared.node.Node.{Node}
use Rattle.decimation_repair.specs.Levels.{Levels}
use Rattle.decimation_repair.specs.Choice.{BeliefChoice}
use Rattle.decimation_repair.specs.Walk.{Choice, IsChoice, Finds, Ends, Spends}

-- an instance has one walk: it finds at most one solution, by one list of nodes
pub record OneWalk (choose : Choice) : Type 0 where
  pub finds : (g : Graph) (m n : ℕ) (one other : List ℕ) (xs ys : List Node) → Finds g choose m one xs → Finds g choose n other ys → (one ≡ other) × (xs ≡ ys)
  pub ends : (g : Graph) (m n : ℕ) (xs ys : List Node) → Ends g choose m xs → Ends g choose n ys → xs ≡ ys
  pub spends : (g : Graph) (n : ℕ) (xs ys : List Node) → Spends g choose n xs → Spends g choose n ys → xs ≡ ys
  pub finds_or_ends : (g : Graph) (m n : ℕ) (one : List ℕ) (xs ys : List Node) → Finds g choose m one xs → Ends g choose n ys → ⊥
  pub finds_or_spends : (g : Graph) (n : ℕ) (one : List ℕ) (xs ys : List Node) → Finds g choose n one xs → Spends g choose n ys → ⊥
  pub ends_or_spends : (g : Graph) (n : ℕ) (xs ys : List Node) → Ends g choose n xs → Spends g choose n ys → ⊥

abbrev pub WalkIsOne : Type 0
WalkIsOne = (f : List (List Levels)) → OneWalk (BeliefChoice f)

-- the choice names a package that is undecided, and each of its closed states once
abbrev pub ChoiceIsLawful : Type 0
ChoiceIsLawful = (f : List (List Levels)) → IsChoice (BeliefChoice f)

-- what the walk finds is a solution
abbrev pub FoundIsSolution : Type 0
FoundIsSolution = (f : List (List Levels)) (g : Graph) (budget : ℕ) (chosen : List ℕ) (nodes : List Node) → Finds g (BeliefChoice f) budget chosen nodes → IsSolution g chosen

-- the nodes are the pre-order list of a whole tree that refutes by this pruning
pub record IsRefutedBy (g : Graph) (pruning : Pruning) (nodes : List Node) : Type 0 where
  pub tree : Tree
  pub listed : nodes ≡ preorder None tree
  pub refutes : Refutes g pruning [] tree

-- the nodes of a walk that ends without a solution refute the instance, of which nothing is pruned again: so the log
-- of a pruned instance refutes the instance that it was pruned from, by the numbers before
abbrev pub EndRefutes : Type 0
EndRefutes = (f : List (List Levels)) (g : Graph) (own : Pruning) → IsUnpruned g own → (budget : ℕ) (nodes : List Node) → Ends g (BeliefChoice f) budget nodes → IsRefutedBy g own nodes

-- so the instance has no solution
abbrev pub EndLeavesNone : Type 0
EndLeavesNone = (f : List (List Levels)) (g : Graph) (budget : ℕ) (nodes : List Node) → Ends g (BeliefChoice f) budget nodes → HasNoSolution g
