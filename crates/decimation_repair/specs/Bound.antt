-- How many nodes a walk has at most. (own rule)
use Rattle.std.specs.Prelude.{ℕ, zero, suc, ◌+◌, ◌*◌, ◌<◌, ◌≤◌, List, length}
use Rattle.version_graph.specs.Graph.{Graph, packages, states}
use Rattle.refutation_log.specs.declared.node.Node.{Node}
use Rattle.decimation_repair.specs.Walk.{Choice, Finds, Ends, Spends}
use Rattle.decimation_repair.specs.Levels.{Levels}
use Rattle.decimation_repair.specs.Choice.{BeliefChoice}

-- f of the numbers below n, multiplied
abbrev pub product_below : (ℕ → ℕ) → ℕ → ℕ
product_below f zero = 1
product_below f (suc n) = product_below f n * f n

-- the product over packages of one more than their states
abbrev pub most_nodes : Graph → ℕ
most_nodes g = product_below (λ p. states g p + 1) (packages g)

-- no walk has more nodes than that; so a budget that is as great is never spent
pub record StaysWithin (choose : Choice) : Type 0 where
  pub finds : (g : Graph) (budget : ℕ) (chosen : List ℕ) (nodes : List Node) → Finds g choose budget chosen nodes → length nodes ≤ most_nodes g
  pub ends : (g : Graph) (budget : ℕ) (nodes : List Node) → Ends g choose budget nodes → length nodes ≤ most_nodes g
  pub spends : (g : Graph) (budget : ℕ) (nodes : List Node) → Spends g choose budget nodes → budget < most_nodes g

abbrev pub WalkStaysWithin : Type 0
WalkStaysWithin = (f : List (List Levels)) → StaysWithin (BeliefChoice f)
