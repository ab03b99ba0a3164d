-- How the search of an instance ends: the walk of its pruned instance, told by the numbers before pruning. (own rule)
use Rattle.std.specs.Prelude.{◌≡◌, ℕ, ◌<◌, List, [], ◌∷◌, length, None}
use Rattle.version_graph.specs.Graph.{Graph, IsGraph}
use Rattle.version_graph.specs.Family.{HasEmpty, under}
use Rattle.version_graph.specs.Part.{Part}
use Rattle.graph_pruning.specs.Pruned.{Pruning}
use Rattle.graph_pruning.specs.Reduced.{IsReduction, IsWidenedTo}
use Rattle.refutation_log.specs.declared.node.Node.{Node}
use Rattle.refutation_log.specs.declared.node.NodeKind.TheVariants.{Leaf}
use Rattle.raise_pass.specs.Finishing.{Finishes}
use Rattle.decimation_repair.specs.Levels.{Levels}
use Rattle.decimation_repair.specs.Choice.{BeliefChoice}
use Rattle.decimation_repair.specs.Walk.{Finds, Ends, Spends}
use Rattle.instance_search.specs.Rated.{AreRated}
use Rattle.instance_search.specs.Written.{IsWritten}
use Rattle.instance_search.specs.declared.answer.Answer.{Answer}
use Rattle.instance_search.specs.declared.answer.Answer.TheVariants.{Found, Empty, Spent}

-- ---- where no closed domain is empty

-- a solution of the pruned instance by the numbers before pruning, with every other package absent, is finished to
-- these states
pub record IsFinishedFrom (g : Graph) (pr : Pruning) (h : Graph) (b : Part) (chosen states : List ℕ) : Type 0 where
  pub widened : List ℕ
  pub is_widened : IsWidenedTo g pr h b chosen widened
  pub finishes : Finishes g widened states

-- the walk of the pruned instance finds a solution after so many nodes, and it is finished to these states
pub record FindsStates (g : Graph) (pr : Pruning) (h : Graph) (b : Part) (f : List (List Levels)) (budget : ℕ) (states : List ℕ) (count : ℕ) : Type 0 where
  pub chosen : List ℕ
  pub nodes : List Node
  pub finds : Finds h (BeliefChoice f) budget chosen nodes
  pub counted : count ≡ length nodes
  pub finished : IsFinishedFrom g pr h b chosen states

-- the walk of the pruned instance ends without a solution, and the log has its nodes by the numbers before pruning
pub record EndsWith (h : Graph) (b : Part) (f : List (List Levels)) (budget : ℕ) (log : List Node) : Type 0 where
  pub nodes : List Node
  pub ends : Ends h (BeliefChoice f) budget nodes
  pub written : IsWritten b nodes log

-- the walk of the pruned instance passes the budget, and the log has its first nodes by the numbers before pruning
pub record SpendsWith (h : Graph) (b : Part) (f : List (List Levels)) (budget : ℕ) (log : List Node) : Type 0 where
  pub nodes : List Node
  pub spends : Spends h (BeliefChoice f) budget nodes
  pub written : IsWritten b nodes log

abbrev pub EndsByWalk : Graph → Pruning → Graph → Part → List (List Levels) → ℕ → Answer → Type 0
EndsByWalk g pr h b f budget (Found states count) = FindsStates g pr h b f budget states.items count
EndsByWalk g pr h b f budget (Empty log) = EndsWith h b f budget log.items
EndsByWalk g pr h b f budget (Spent log) = SpendsWith h b f budget log.items

-- the answer is that of the walk of the pruned instance, whose states weigh what they weigh before pruning
pub record IsWalked (g : Graph) (budget : ℕ) (answer : Answer) : Type 0 where
  pub «pruning» : Pruning
  pub pruned : Graph
  pub back : Part
  pub weights : List (List Levels)
  pub sound : IsGraph pruned
  pub reduction : IsReduction g «pruning» pruned back
  pub rated : AreRated g pruned back weights
  pub ends : EndsByWalk g «pruning» pruned back weights budget answer

-- ---- where a closed domain is empty

-- the walk is one leaf, where the budget has a node
abbrev pub EndsAtOnce : ℕ → Answer → Type 0
EndsAtOnce budget (Found states count) = ⊥
EndsAtOnce budget (Empty log) = (0 < budget) × (log.items ≡ record { state = None; kind = Leaf } ∷ [])
EndsAtOnce budget (Spent log) = (budget ≡ 0) × (log.items ≡ [])

pub record IsDeadEnd (g : Graph) (budget : ℕ) (answer : Answer) : Type 0 where
  pub empty : HasEmpty g (under g [])
  pub ends : EndsAtOnce budget answer

-- ---- the answer

pub data Searches (g : Graph) (budget : ℕ) (answer : Answer) : Type 0 where
  at_once : IsDeadEnd g budget answer → Searches g budget answer
  by_walk : IsWalked g budget answer → Searches g budget answer
